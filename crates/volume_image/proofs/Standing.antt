-- An image stands for one volume by one reach, and by the blocks of that reach alone.
use Rattle.std.proofs.Common.{◌≡◌, ◌≤◌, ◌+◌, ◌*◌, ◌/◌, ◌++◌, ℕ, List, [], ◌∷◌, length, map, Contains, All, Option, slice_get, unwrap_or, refl, sym, ap, ap₂, subst, ◌∙◌, arith}
use Rattle.std.proofs.lemmas.List.Elements.{All-nil, All-append, All-contains, All-weaker}
use Rattle.std.proofs.lemmas.Option.{unwrap_or-slice_get}
use Rattle.std.specs.Cmp.{nat_cmp_total}
use Rattle.std.specs.FinMap.{entries, same_entries_map, nat_cmp-IsAntisymmetric}
use Rattle.blk_base.specs.declared.key.Key.{Key}
use Rattle.blk_base.specs.Address.{IsAllowed}
use Rattle.blk_base.specs.Bytes.{zeros}
use Rattle.blk_base.specs.Leaf.{Item}
use Rattle.blk_base.specs.Keys.{extent_data}
use Rattle.blk_base.specs.Items.{RootValue, root_value}
use Rattle.blk_base.specs.Superblock.{SuperValue, IsSuper}
use Rattle.format_laws.specs.Checks.{same_ok}
use Rattle.format_laws.specs.Superblock.{super_of-Ok}
use Rattle.flat_model.specs.Records.{InodeRecord, FileInode, DirInode, LinkInode}
use Rattle.flat_model.specs.Volume.{Subvolume, Volume, subvolume_ids}
use Rattle.flat_model.specs.Coherent.{IsCoherent, IsCoherentVolume}
use Rattle.volume_image.specs.Tree.{Image, NoneTwice, block_of}
use Rattle.volume_image.specs.Subvolume.{Data, AreItemsOf, IsAsked, InodeAsked, RefsAsked, ExtRefsAsked, AttributesAsked, HashedAsked, IndexedAsked, ExtentAsked, IsExtentOf, data_addresses}
use Rattle.volume_image.specs.Stands.{super_block, data_of, root_want, sub_want, AreRootItems, IsSubvolumeAt, AreSubvolumesAt, IsCommitted, StandsBy, Stands, AgreesOn}
use Rattle.volume_image.proofs.Lists.{all_parts}
use Rattle.volume_image.proofs.Reaches.{head_in, tail_in}
use Rattle.volume_image.proofs.Members.{in_get}
use Rattle.volume_image.proofs.Trees.{SameBlocks, tree_is_one_lem, tree_local, tree_allowed}
use Rattle.volume_image.proofs.Extents.{run_is_reached}
use Rattle.volume_image.proofs.SameItems.{items_have_one_subvolume}

-- ---- by the blocks of the reach alone

-- two images have the same block, or none, at each of these addresses
abbrev pub SameGets : Image → Image → List ℕ → Type 0
SameGets one two reach = All (λ at. slice_get one (at / 4096) ≡ slice_get two (at / 4096)) reach

gets_blocks : (one two : Image) (reach : List ℕ) → SameGets one two reach → SameBlocks one two reach
gets_blocks one two reach same =
    All-weaker (λ at. slice_get one (at / 4096) ≡ slice_get two (at / 4096)) (λ at. block_of one at ≡ block_of two at)
    (λ at e. sym (unwrap_or-slice_get one (at / 4096) []) ∙ ap (λ (o : Option (List ℕ)). unwrap_or o []) e ∙ unwrap_or-slice_get two (at / 4096) []) reach same

extent_local : (one two : Data) (items : List Item) (key : Key) (bytes : List ℕ) (inode : InodeRecord) → Contains items (key, bytes) → key.kind ≡ extent_data
    → ((at : ℕ) → Contains (data_addresses items) at → one at ≡ two at) → IsExtentOf one inode key bytes → IsExtentOf two inode key bytes
extent_local one two items key bytes (FileInode file) there kind same (at, len, is, holds) =
    (at, len, is, λ i below. let block = holds i below in (block.0, sym (same (at + 4096 * i) (run_is_reached items key bytes at 0 len i there kind is below)) ∙ block.1, block.2))
extent_local one two items key bytes (DirInode dir) there kind same is = is
extent_local one two items key bytes (LinkInode link) there kind same is = is

asked_local : (one two : Data) (items : List Item) (sub : Subvolume) (key : Key) (bytes : List ℕ) → Contains items (key, bytes)
    → ((at : ℕ) → Contains (data_addresses items) at → one at ≡ two at) → IsAsked sub one key bytes → IsAsked sub two key bytes
asked_local one two items sub key bytes there same (InodeAsked inode k z t is) = InodeAsked inode k z t is
asked_local one two items sub key bytes there same (RefsAsked found k is p) = RefsAsked found k is p
asked_local one two items sub key bytes there same (ExtRefsAsked found k is p) = ExtRefsAsked found k is p
asked_local one two items sub key bytes there same (AttributesAsked k is) = AttributesAsked k is
asked_local one two items sub key bytes there same (HashedAsked k is) = HashedAsked k is
asked_local one two items sub key bytes there same (IndexedAsked k is) = IndexedAsked k is
asked_local one two items sub key bytes there same (ExtentAsked inode k t is) = ExtentAsked inode k t (extent_local one two items key bytes inode there k same is)

pub items_local : (one two : Data) (items : List Item) (sub : Subvolume) → AreItemsOf items one sub → ((at : ℕ) → Contains (data_addresses items) at → one at ≡ two at) → AreItemsOf items two sub
items_local one two items sub are same = record {
  only = λ key bytes there. asked_local one two items sub key bytes there same (are.only key bytes there);
  inodes = are.inodes;
  refs = are.refs;
  extrefs = are.extrefs;
  attributes = are.attributes;
  hashed = are.hashed;
  indexed = are.indexed;
  file_blocks = are.file_blocks;
  targets = are.targets;
  apart = are.apart;
}

subvolume_local : (one two : Image) (super : SuperValue) (id : ℕ) (root : RootValue) (sub : Subvolume) (reach : List ℕ) → IsSubvolumeAt one super id root sub reach → SameGets one two reach → IsSubvolumeAt two super id root sub reach
subvolume_local one two super id root sub reach at same =
    let parts = all_parts (λ x. slice_get one (x / 4096) ≡ slice_get two (x / 4096)) at.tree_reach (data_addresses at.items) (subst (SameGets one two) at.reached same) in
    record {
      items = at.items;
      tree_reach = at.tree_reach;
      tree = tree_local one two super.blocks (sub_want super id root) at.items at.tree_reach at.tree (gets_blocks one two at.tree_reach parts.0);
      same = items_local (data_of one) (data_of two) at.items sub at.same
          (λ x there. All-contains (λ y. slice_get one (y / 4096) ≡ slice_get two (y / 4096)) (data_addresses at.items) x parts.1 there);
      allowed = at.allowed;
      reached = at.reached;
    }

subvolumes_local : (one two : Image) (super : SuperValue) (roots : List RootValue) (subs : List (ℕ × Subvolume)) (reach : List ℕ) → AreSubvolumesAt one super roots subs reach → SameGets one two reach → AreSubvolumesAt two super roots subs reach
subvolumes_local one two super [] [] reach at same = at
subvolumes_local one two super [] (sub ∷ subs) reach at same = absurd at
subvolumes_local one two super (root ∷ roots) [] reach at same = absurd at
subvolumes_local one two super (root ∷ roots) (sub ∷ subs) reach (near, far, here, there, is_reach) same =
    let parts = all_parts (λ x. slice_get one (x / 4096) ≡ slice_get two (x / 4096)) near far (subst (SameGets one two) is_reach same) in
    (near, far, subvolume_local one two super sub.0 root sub.1 near here parts.0, subvolumes_local one two super roots subs far there parts.1, is_reach)

committed_local : (one two : Image) (super : SuperValue) (volume : Volume) (reach : List ℕ) → IsCommitted one super volume reach → SameGets one two reach → IsCommitted two super volume reach
committed_local one two super volume reach is same =
    let parts = all_parts (λ x. slice_get one (x / 4096) ≡ slice_get two (x / 4096)) is.root_reach is.sub_reach (subst (SameGets one two) is.reached same) in
    record {
      items = is.items;
      roots = is.roots;
      root_reach = is.root_reach;
      sub_reach = is.sub_reach;
      root_tree = tree_local one two super.blocks (root_want super) is.items is.root_reach is.root_tree (gets_blocks one two is.root_reach parts.0);
      least = is.least;
      most = is.most;
      root_items = is.root_items;
      ids = is.ids;
      subvolumes = subvolumes_local one two super is.roots (entries volume) is.sub_reach is.subvolumes parts.1;
      reached = is.reached;
      once = is.once;
      coherent = is.coherent;
    }

pub stands_local : (one two : Image) (volume : Volume) (reach : List ℕ) → StandsBy one volume reach → AgreesOn reach one two → StandsBy two volume reach
stands_local one two volume reach stands agrees =
    let block : super_block one ≡ super_block two = sym (unwrap_or-slice_get one 16 (zeros 4096)) ∙ ap (λ (o : Option (List ℕ)). unwrap_or o (zeros 4096)) agrees.super ∙ unwrap_or-slice_get two 16 (zeros 4096) in
    record {
      super = stands.super;
      spelled = subst (λ (size : ℕ). IsSuper (super_block two) size stands.super) agrees.size (subst (λ (bytes : List ℕ). IsSuper bytes (length one) stands.super) block stands.spelled);
      committed = committed_local one two stands.super volume reach stands.committed agrees.blocks;
      no_log = stands.no_log;
      room = stands.room;
    }

-- ---- one volume by one reach

roots_are : (items : List Item) (ids : List ℕ) (roots : List RootValue) → AreRootItems items ids roots → roots ≡ map (λ (item : Item). root_value item.1) items
roots_are [] [] [] a = refl
roots_are [] [] (root ∷ roots) a = absurd a
roots_are [] (id ∷ ids) roots a = absurd a
roots_are (item ∷ items) [] roots a = absurd a
roots_are (item ∷ items) (id ∷ ids) [] a = absurd a
roots_are (item ∷ items) (id ∷ ids) (root ∷ roots) a =
    let rest = roots_are items ids roots a.2 in
    λ i. sym a.1.value i ∷ rest i

subvolume_same : (image : Image) (super : SuperValue) (id : ℕ) (root : RootValue) (x y : Subvolume) (r s : List ℕ) → IsSubvolumeAt image super id root x r → IsSubvolumeAt image super id root y s → IsCoherent x → IsCoherent y → (x ≡ y) × (r ≡ s)
subvolume_same image super id root x y r s a b c d =
    let tree = tree_is_one_lem image super.blocks (sub_want super id root) a.items b.items a.tree_reach b.tree_reach a.tree b.tree in (
      items_have_one_subvolume a.items (data_of image) x y a.same (subst (λ (items : List Item). AreItemsOf items (data_of image) y) (sym tree.0) b.same) c d,
      a.reached ∙ ap₂ (λ (p q : List ℕ). p ++ q) tree.1 (ap data_addresses tree.0) ∙ sym b.reached,
    )

-- each subvolume of a list is coherent
abbrev AreCoherent : List (ℕ × Subvolume) → Type 0
AreCoherent subs = (id : ℕ) (sub : Subvolume) → Contains subs (id, sub) → IsCoherent sub

subvolumes_same : (image : Image) (super : SuperValue) (roots : List RootValue) (xs ys : List (ℕ × Subvolume)) (r s : List ℕ) → AreSubvolumesAt image super roots xs r → AreSubvolumesAt image super roots ys s
    → map (λ (entry : ℕ × Subvolume). entry.0) xs ≡ map (λ (entry : ℕ × Subvolume). entry.0) ys → AreCoherent xs → AreCoherent ys → (xs ≡ ys) × (r ≡ s)
subvolumes_same image super [] [] [] r s a b ids c d = (refl, a ∙ sym b)
subvolumes_same image super [] [] (y ∷ ys) r s a b ids c d = absurd b
subvolumes_same image super [] (x ∷ xs) ys r s a b ids c d = absurd a
subvolumes_same image super (root ∷ roots) [] ys r s a b ids c d = absurd a
subvolumes_same image super (root ∷ roots) (x ∷ xs) [] r s a b ids c d = absurd b
subvolumes_same image super (root ∷ roots) (x ∷ xs) (y ∷ ys) r s (near, far, here, there, is_r) (near', far', here', there', is_s) ids c d =
    let id : x.0 ≡ y.0 = cc in
    let others : map (λ (entry : ℕ × Subvolume). entry.0) xs ≡ map (λ (entry : ℕ × Subvolume). entry.0) ys = cc in
    let first = subvolume_same image super x.0 root x.1 y.1 near near' here (subst (λ (n : ℕ). IsSubvolumeAt image super n root y.1 near') (sym id) here') (c x.0 x.1 (head_in x xs)) (d y.0 y.1 (head_in y ys)) in
    let rest = subvolumes_same image super roots xs ys far far' there there' others (λ n sub there. c n sub (tail_in x (n, sub) xs there)) (λ n sub there. d n sub (tail_in y (n, sub) ys there)) in
    ((λ i. (id i, first.0 i) ∷ rest.0 i), is_r ∙ ap₂ (λ (p q : List ℕ). p ++ q) first.1 rest.1 ∙ sym is_s)

coherent_entries : (volume : Volume) → IsCoherentVolume volume → AreCoherent (entries volume)
coherent_entries volume coherent id sub there = coherent id sub (in_get nat_cmp_total nat_cmp-IsAntisymmetric volume id sub there)

pub committed_same : (image : Image) (super : SuperValue) (v w : Volume) (r s : List ℕ) → IsCommitted image super v r → IsCommitted image super w s → (v ≡ w) × (r ≡ s)
committed_same image super v w r s a b =
    let tree = tree_is_one_lem image super.blocks (root_want super) a.items b.items a.root_reach b.root_reach a.root_tree b.root_tree in
    let roots : a.roots ≡ b.roots = roots_are a.items _ a.roots a.root_items ∙ ap (map (λ (item : Item). root_value item.1)) tree.0 ∙ sym (roots_are b.items _ b.roots b.root_items) in
    let ids : map (λ (entry : ℕ × Subvolume). entry.0) (entries v) ≡ map (λ (entry : ℕ × Subvolume). entry.0) (entries w) = a.ids ∙ ap (λ (x : List RootValue). subvolume_ids (length x)) roots ∙ sym b.ids in
    let subs = subvolumes_same image super a.roots (entries v) (entries w) a.sub_reach b.sub_reach a.subvolumes
    (subst (λ (x : List RootValue). AreSubvolumesAt image super x (entries w) b.sub_reach) (sym roots) b.subvolumes) ids (coherent_entries v a.coherent) (coherent_entries w b.coherent) in
    (same_entries_map v w subs.0, a.reached ∙ ap₂ (λ (p q : List ℕ). p ++ q) tree.1 subs.1 ∙ sym b.reached)

pub stands_same : (image : Image) (v w : Volume) (r s : List ℕ) → StandsBy image v r → StandsBy image w s → (v ≡ w) × (r ≡ s)
stands_same image v w r s a b =
    let super : a.super ≡ b.super = same_ok (sym (super_of-Ok (super_block image) (length image) a.super a.spelled) ∙ super_of-Ok (super_block image) (length image) b.super b.spelled) in
    committed_same image a.super v w r s a.committed (subst (λ (x : SuperValue). IsCommitted image x w s) (sym super) b.committed)

pub stands_once : (image : Image) (v w : Volume) → Stands image v → Stands image w → v ≡ w
stands_once image v w a b = (stands_same image v w a.reach b.reach a.by_reach b.by_reach).0

pub one_reach : (image : Image) (v w : Volume) (r s : List ℕ) → StandsBy image v r → StandsBy image w s → r ≡ s
one_reach image v w r s a b = (stands_same image v w r s a b).1

-- ---- the reach

subvolumes_allowed : (image : Image) (super : SuperValue) (roots : List RootValue) (subs : List (ℕ × Subvolume)) (reach : List ℕ) → AreSubvolumesAt image super roots subs reach → All (IsAllowed super.blocks) reach
subvolumes_allowed image super [] [] reach at = subst (All (IsAllowed super.blocks)) (sym at) (All-nil (IsAllowed super.blocks))
subvolumes_allowed image super [] (sub ∷ subs) reach at = absurd at
subvolumes_allowed image super (root ∷ roots) [] reach at = absurd at
subvolumes_allowed image super (root ∷ roots) (sub ∷ subs) reach (near, far, here, there, is_reach) =
    let tree = tree_allowed image super.blocks (sub_want super sub.0 root) here.items here.tree_reach here.tree in
    let first = subst (All (IsAllowed super.blocks)) (sym here.reached) (All-append (IsAllowed super.blocks) here.tree_reach (data_addresses here.items) tree here.allowed) in
    subst (All (IsAllowed super.blocks)) (sym is_reach) (All-append (IsAllowed super.blocks) near far first (subvolumes_allowed image super roots subs far there))

pub committed_allowed : (image : Image) (super : SuperValue) (volume : Volume) (reach : List ℕ) → IsCommitted image super volume reach → All (IsAllowed super.blocks) reach
committed_allowed image super volume reach is =
    subst (All (IsAllowed super.blocks)) (sym is.reached)
    (All-append (IsAllowed super.blocks) is.root_reach is.sub_reach (tree_allowed image super.blocks (root_want super) is.items is.root_reach is.root_tree) (subvolumes_allowed image super is.roots (entries volume) is.sub_reach is.subvolumes))

pub reach_none_twice : (image : Image) (volume : Volume) (reach : List ℕ) → StandsBy image volume reach → NoneTwice reach
reach_none_twice image volume reach stands = stands.committed.once

pub reach_all_allowed : (image : Image) (volume : Volume) (reach : List ℕ) (stands : StandsBy image volume reach) → All (IsAllowed stands.super.blocks) reach
reach_all_allowed image volume reach stands = committed_allowed image stands.super volume reach stands.committed

pub reach_leaves_room : (image : Image) (volume : Volume) (reach : List ℕ) (stands : StandsBy image volume reach) → length reach + 198 ≤ stands.super.blocks
reach_leaves_room image volume reach stands = let room = stands.room in omega arith
