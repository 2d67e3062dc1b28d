-- Subvolumes that differ in indexes alone: walks end alike in them, and operations answer alike and leave them alike.
use Rattle.std.proofs.Common.{◌≡◌, ◌≢◌, ℕ, ◌<◌, ◌+◌, ◌^◌, max, Bool, true, false, cond, not, ◌&&◌, ◌||◌, List, [], ◌∷◌, length, Option, Some, None, refl, sym, ap, subst, ◌∙◌, arith, inl, inr}
use Rattle.std.specs.Bool.{nat_eq, nat_lt, nat_le}
use Rattle.std.specs.Option.{unwrap_or, is_none}
use Rattle.std.specs.List.{Contains, slice_index}
use Rattle.std.specs.FinMap.{FinMap, get, insert, remove}
use Rattle.std.specs.Ordering.{nat_cmp}
use Rattle.std.proofs.lemmas.Bool.{true≢false, or_parts, eq-eqb, lt-leb}
use Rattle.blk_base.specs.Crc.{name_hash_of}
use Rattle.flat_model.specs.declared.answer.Answer.{Answer}
use Rattle.flat_model.specs.declared.answer.Answer.TheVariants.{Plain, Number, Bytes, NoEnt, NotDir, IsDir, Exists, NotEmpty, Loop, Links, TooLarge, NoAttr, Collide}
use Rattle.flat_model.specs.declared.op.Op.{Op}
use Rattle.flat_model.specs.declared.op.Op.TheVariants.{Create, Mkdir, Symlink, Link, Unlink, Rmdir, Rename, Exchange, Lookup, Write, Truncate, Read, SetAttr, DelAttr, GetAttr}
use Rattle.flat_model.specs.Records.{InodeRecord, FileRecord, Attributes, FileInode, with_attributes, new_file, new_dir, new_link}
use Rattle.flat_model.specs.Contents.{most_file_bytes, bytes_read, written, truncated}
use Rattle.flat_model.specs.Lengths.{most_item_bytes, most_ref_bytes, ref_item_length, xattr_item_length}
use Rattle.flat_model.specs.Names.{FlatName, is_name_set, add_name, remove_name, is_in_slot, name_in_slot, leads_to, stands_in, links_of}
use Rattle.flat_model.specs.Volume.{Subvolume, RunSub, RunNumbers, is_dir_at, is_dir_there, is_other_there, is_link_there}
use Rattle.flat_model.specs.Coherent.{IsCoherent, most_links}
use Rattle.flat_model.specs.Walk.{WalkEnd, AtRoot, AtSlot, Missing, Blocked, walk, walk_from, ino_at, record_at, is_absent, is_dirless, is_blocked, is_root, is_taken, dir_of, bytes_of, is_one_inode, is_below}
use Rattle.flat_model.specs.Operations.{Outcome, first_answer, unchanged, unless_refused, inos_are_spent, indexes_are_spent, has_entries, new_name, names_without, without_name, without_entry, do_collide, with_record, with_record_of, with_record_at, with_attributes_at, make, make_rows, make_done, link, link_rows, link_done, unlink, unlink_rows, rmdir, rmdir_rows, removal_done, rename, rename_rows, rename_done, exchange, exchange_rows, exchange_done, lookup, file_rows, file_there, write, truncate, read, attributes_there, attribute_rows, set_attribute, remove_attribute, get_attribute}
use Rattle.flat_model.specs.Step.{outcome_of}
use Rattle.flat_model.specs.Running.{IsSound}
use Rattle.flat_model.proofs.NameSets.{add_name_cases, remove_name_keeps}
use Rattle.flat_model.proofs.Ways.{find_some, find_none, is_in_slot_gives, walk_slot}
use Rattle.flat_model.proofs.Fresh.{NoneHolds, no_answer}
use Rattle.flat_model.proofs.OneName.{free_slot, some_slot, slot_is_free}
use Rattle.flat_model.proofs.Moves.{holds_name}
use Rattle.flat_laws.specs.Alike.{unindexed}
use Rattle.flat_laws.proofs.Choices.{with_last, same_last, stays_free}
use Rattle.flat_laws.proofs.Crowds.{IsFreeIn, names_without_part, names_without_set, slot_freed}
use Rattle.flat_laws.proofs.Reindexed.{SameSums, count_like, links_like, member_like, add_like, remove_like, ref_like, crowded_like}

-- two walks end alike: at the root directory, in one slot with names that are the same but for their indexes, or nowhere
pub data LikeEnds (ns ms : List FlatName) : WalkEnd → WalkEnd → Type 0 where
  Roots : LikeEnds ns ms AtRoot AtRoot
  Free : (dir : ℕ) (bytes : List ℕ) → LikeEnds ns ms (AtSlot dir bytes None) (AtSlot dir bytes None)
  Held : (dir : ℕ) (bytes : List ℕ) (q r : FlatName) → unindexed q ≡ unindexed r → Contains ns q → Contains ms r → LikeEnds ns ms (AtSlot dir bytes (Some q)) (AtSlot dir bytes (Some r))
  Missed : LikeEnds ns ms Missing Missing
  Stopped : LikeEnds ns ms Blocked Blocked

-- what is asked of two ends of walks is the same
record Agree (v w : WalkEnd) : Type 0 where
  absent : is_absent v ≡ is_absent w
  dirless : is_dirless v ≡ is_dirless w
  blocked : is_blocked v ≡ is_blocked w
  root : is_root v ≡ is_root w
  taken : is_taken v ≡ is_taken w
  ino : ino_at v ≡ ino_at w
  dir : dir_of v ≡ dir_of w
  bytes : bytes_of v ≡ bytes_of w

agree : (ns ms : List FlatName) (v w : WalkEnd) → LikeEnds ns ms v w → Agree v w
agree ns ms v w Roots = record { absent = refl; dirless = refl; blocked = refl; root = refl; taken = refl; ino = refl; dir = refl; bytes = refl }
agree ns ms v w (Free dir bytes) = record { absent = refl; dirless = refl; blocked = refl; root = refl; taken = refl; ino = refl; dir = refl; bytes = refl }
agree ns ms v w (Held dir bytes q r is c d) = record { absent = refl; dirless = refl; blocked = refl; root = refl; taken = refl; ino = ap (λ (n : FlatName). Some n.ino) is; dir = refl; bytes = refl }
agree ns ms v w Missed = record { absent = refl; dirless = refl; blocked = refl; root = refl; taken = refl; ino = refl; dir = refl; bytes = refl }
agree ns ms v w Stopped = record { absent = refl; dirless = refl; blocked = refl; root = refl; taken = refl; ino = refl; dir = refl; bytes = refl }

one_inode_like : (ns ms : List FlatName) (v w v' w' : WalkEnd) → LikeEnds ns ms v w → LikeEnds ns ms v' w' → is_one_inode v v' ≡ is_one_inode w w'
one_inode_like ns ms v w v' w' (Held dir bytes q r is c d) (Held dir' bytes' q' r' is' c' d') = λ i. nat_eq (ap (λ (n : FlatName). n.ino) is i) (ap (λ (n : FlatName). n.ino) is' i)
one_inode_like ns ms v w v' w' one two = refl

-- two names that may be there
abbrev Like : List FlatName → List FlatName → Option FlatName → Option FlatName → Type 0
Like ns ms None None = Unit {0}
Like ns ms None (Some r) = ⊥
Like ns ms (Some q) None = ⊥
Like ns ms (Some q) (Some r) = (unindexed q ≡ unindexed r) × Contains ns q × Contains ms r

end_like : (ns ms : List FlatName) (dir : ℕ) (bytes : List ℕ) (o p : Option FlatName) → Like ns ms o p → LikeEnds ns ms (AtSlot dir bytes o) (AtSlot dir bytes p)
end_like ns ms dir bytes None None like = Free dir bytes
end_like ns ms dir bytes None (Some r) like = absurd like
end_like ns ms dir bytes (Some q) None like = absurd like
end_like ns ms dir bytes (Some q) (Some r) like = Held dir bytes q r like.0 like.1 like.2

-- ---- walks

module _ (inodes : FinMap nat_cmp InodeRecord) (ns ms : List FlatName) (coherent : IsCoherent (record { inodes = inodes; names = ns })) (coherent' : IsCoherent (record { inodes = inodes; names = ms })) (same : SameSums ns ms) where
  abbrev A : Subvolume
  A = record { inodes = inodes; names = ns }

  abbrev B : Subvolume
  B = record { inodes = inodes; names = ms }

  slot_like : (dir : ℕ) (bytes : List ℕ) → Like ns ms (name_in_slot ns dir bytes) (name_in_slot ms dir bytes)
  slot_like dir bytes =
      let p : FlatName → Bool = is_in_slot dir bytes in
      elim (name_in_slot ns dir bytes) as (λ o. name_in_slot ns dir bytes ≡ o → Like ns ms o (name_in_slot ms dir bytes)) [
        | None ↦ λ e. elim (name_in_slot ms dir bytes) as (λ o. name_in_slot ms dir bytes ≡ o → Like ns ms None o) [
          | None ↦ λ f. tt
          | Some r ↦ λ f.
              let found = find_some p ms r f in
              let other = member_like ms ns (λ g. sym (same g)) r found.0 in
              true≢false (sym (ap p (sym other.2) ∙ found.1) ∙ find_none p ns e other.0 other.1)
        ] refl
        | Some q ↦ λ e.
            let found = find_some p ns q e in
            let other = member_like ns ms same q found.0 in
            let passes : p other.0 ≡ true = ap p (sym other.2) ∙ found.1 in
            elim (name_in_slot ms dir bytes) as (λ o. name_in_slot ms dir bytes ≡ o → Like ns ms (Some q) o) [
              | None ↦ λ f. true≢false (sym passes ∙ find_none p ms f other.0 other.1)
              | Some r ↦ λ f.
                  let here = find_some p ms r f in
                  let slot_r = is_in_slot_gives dir bytes r here.1 in
                  let slot_o = is_in_slot_gives dir bytes other.0 passes in
                  let one = coherent'.no_name_twice other.0 r other.1 here.0 (slot_o.0 ∙ sym slot_r.0) (slot_o.1 ∙ sym slot_r.1) in
                  (other.2 ∙ ap unindexed one, found.0, here.0)
            ] refl
      ] refl

  walk_from_like : (dir : ℕ) (bytes : List ℕ) (path : List (List ℕ)) → LikeEnds ns ms (walk_from A dir bytes path) (walk_from B dir bytes path)
  walk_from_like dir bytes [] =
      elim (is_dir_at A dir) as (λ b. LikeEnds ns ms (cond b (AtSlot dir bytes (name_in_slot ns dir bytes)) Blocked) (cond b (AtSlot dir bytes (name_in_slot ms dir bytes)) Blocked)) [
        | true ↦ end_like ns ms dir bytes (name_in_slot ns dir bytes) (name_in_slot ms dir bytes) (slot_like dir bytes)
        | false ↦ Stopped
      ]
  walk_from_like dir bytes (next ∷ path) =
      let rest : (d : ℕ) → LikeEnds ns ms (walk_from A d next path) (walk_from B d next path) = λ d. walk_from_like d next path in
      elim (is_dir_at A dir) as (λ b. LikeEnds ns ms (cond b (elim (name_in_slot ns dir bytes) [ None ↦ Missing | Some name ↦ walk_from A name.ino next path ]) Blocked) (cond b (elim (name_in_slot ms dir bytes) [ None ↦ Missing | Some name ↦ walk_from B name.ino next path ]) Blocked)) [
        | true ↦ goes next path rest (name_in_slot ns dir bytes) (name_in_slot ms dir bytes) (slot_like dir bytes)
        | false ↦ Stopped
      ]
    where
      goes : (next : List ℕ) (path : List (List ℕ)) → ((d : ℕ) → LikeEnds ns ms (walk_from A d next path) (walk_from B d next path)) → (o p : Option FlatName) → Like ns ms o p
          → LikeEnds ns ms (elim o [ None ↦ Missing | Some name ↦ walk_from A name.ino next path ]) (elim p [ None ↦ Missing | Some name ↦ walk_from B name.ino next path ])
      goes next path rest None None like = Missed
      goes next path rest None (Some r) like = absurd like
      goes next path rest (Some q) None like = absurd like
      goes next path rest (Some q) (Some r) like = subst (λ d. LikeEnds ns ms (walk_from A q.ino next path) (walk_from B d next path)) (ap (λ (n : FlatName). n.ino) like.0) (rest q.ino)

  walk_like : (path : List (List ℕ)) → LikeEnds ns ms (walk A path) (walk B path)
  walk_like [] = Roots
  walk_like (bytes ∷ path) = walk_from_like 256 bytes path

  record_like : (v w : WalkEnd) → LikeEnds ns ms v w → record_at A v ≡ record_at B w
  record_like v w like = λ i. elim ((agree ns ms v w like).ino i) [ None ↦ None | Some ino ↦ get inodes ino ]

  entries_like : (o : Option ℕ) → has_entries A o ≡ has_entries B o
  entries_like None = refl
  entries_like (Some ino) = ap (nat_lt 0) (count_like ns ms same (stands_in ino))

  -- a name that comes into names that are alike is alike
  new_like : (left left' : List FlatName) → SameSums left left' → (v w : WalkEnd) → LikeEnds ns ms v w → (i j ino ino' : ℕ) → ino ≡ ino' → unindexed (new_name left v i ino) ≡ unindexed (new_name left' w j ino')
  new_like left left' sums v w like i j ino ino' inos =
      let ends = agree ns ms v w like in
      let room : ref_item_length left ino (dir_of v) ≡ ref_item_length left' ino' (dir_of w) = ref_like left left' sums ino (dir_of v) ∙ (λ t. ref_item_length left' (inos t) (ends.dir t)) in
      λ t. record { dir = ends.dir t; index = 0; bytes = ends.bytes t; ino = inos t; near = nat_le (room t + (10 + length (ends.bytes t))) most_ref_bytes }

  -- names without one that stands in a slot
  less_like : (left left' : List FlatName) → SameSums left left' → is_name_set left ≡ true → is_name_set left' ≡ true → (v w : WalkEnd) → LikeEnds ns ms v w
      → ((q : FlatName) (dir : ℕ) (bytes : List ℕ) → v ≡ AtSlot dir bytes (Some q) → Contains ns q → Contains left q) → ((q : FlatName) (dir : ℕ) (bytes : List ℕ) → w ≡ AtSlot dir bytes (Some q) → Contains ms q → Contains left' q)
      → SameSums (names_without left v) (names_without left' w)
  less_like left left' sums set set' v w Roots has has' = sums
  less_like left left' sums set set' v w (Free dir bytes) has has' = sums
  less_like left left' sums set set' v w (Held dir bytes q r is c d) has has' = remove_like left left' q r sums is set set' (has q dir bytes refl c) (has' r dir bytes refl d)
  less_like left left' sums set set' v w Missed has has' = sums
  less_like left left' sums set set' v w Stopped has has' = sums

  gone_names : (v w : WalkEnd) → LikeEnds ns ms v w → SameSums (without_entry A v).names (without_entry B w).names
  gone_names v w Roots = same
  gone_names v w (Free dir bytes) = same
  gone_names v w (Held dir bytes q r is c d) = remove_like ns ms q r same is coherent.in_order coherent'.in_order c d
  gone_names v w Missed = same
  gone_names v w Stopped = same

  gone_inodes : (v w : WalkEnd) → LikeEnds ns ms v w → (without_entry A v).inodes ≡ (without_entry B w).inodes
  gone_inodes v w Roots = refl
  gone_inodes v w (Free dir bytes) = refl
  gone_inodes v w (Held dir bytes q r is c d) =
      let ino = ap (λ (n : FlatName). n.ino) is in
      let left = links_like (remove_name q ns) (remove_name r ms) (remove_like ns ms q r same is coherent.in_order coherent'.in_order c d) q.ino ∙ ap (links_of (remove_name r ms)) ino in
      λ i. cond (nat_eq (left i) 0) (remove inodes (ino i)) inodes
  gone_inodes v w Missed = refl
  gone_inodes v w Stopped = refl

-- ---- outcomes

-- two subvolumes in their runs are alike
pub record LikeRuns (x y : RunSub) : Type 0 where
  pub inodes : x.sub.inodes ≡ y.sub.inodes
  pub names : SameSums x.sub.names y.sub.names
  pub last_ino : x.numbers.last_ino ≡ y.numbers.last_ino

-- two outcomes are alike
abbrev pub LikeOutcomes : Outcome → Outcome → Type 0
LikeOutcomes o p = (o.answer ≡ p.answer) × LikeRuns o.next p.next

abbrev outcome_by : RunSub → Option Answer → Outcome → Outcome
outcome_by run decided done = elim decided [ None ↦ done | Some answer ↦ unchanged run answer ]

like_rows : (x y : RunSub) → LikeRuns x y → (rows rows' : List (Bool × Answer)) (done done' : Outcome) → first_answer rows ≡ first_answer rows' → (NoneHolds rows → NoneHolds rows' → LikeOutcomes done done') → LikeOutcomes (unless_refused x rows done) (unless_refused y rows' done')
like_rows x y like rows rows' done done' same alike =
    elim (first_answer rows) as (λ o. first_answer rows ≡ o → LikeOutcomes (outcome_by x o done) (outcome_by y (first_answer rows') done')) [
      | None ↦ λ e. let f = sym same ∙ e in subst (λ o. LikeOutcomes done (outcome_by y o done')) (sym f) (alike (no_answer rows e) (no_answer rows' f))
      | Some answer ↦ λ e. subst (λ o. LikeOutcomes (unchanged x answer) (outcome_by y o done')) (sym (sym same ∙ e)) (refl, like)
    ] refl

-- rows that are the same but for a last one, which is the same once none before it holds
like_last : (rows rows' : List (Bool × Answer)) (one two : Bool) (answer : Answer) → rows ≡ rows' → (NoneHolds rows → NoneHolds rows' → one ≡ two) → first_answer (with_last rows (one, answer)) ≡ first_answer (with_last rows' (two, answer))
like_last rows rows' one two answer same last = same_last rows one two answer (λ none. last none (subst NoneHolds same none)) ∙ ap (λ r. first_answer (with_last r (two, answer))) same

-- ---- operations

module _ (inodes : FinMap nat_cmp InodeRecord) (ns ms : List FlatName) (na nb : RunNumbers) (sound : IsSound (record { sub = record { inodes = inodes; names = ns }; numbers = na })) (sound' : IsSound (record { sub = record { inodes = inodes; names = ms }; numbers = nb }))
    (same : SameSums ns ms) (last : na.last_ino ≡ nb.last_ino) (few : na.last_index < 2 ^ 62) (few' : nb.last_index < 2 ^ 62) where
  abbrev x : RunSub
  x = record { sub = record { inodes = inodes; names = ns }; numbers = na }

  abbrev y : RunSub
  y = record { sub = record { inodes = inodes; names = ms }; numbers = nb }

  ends : (path : List (List ℕ)) → LikeEnds ns ms (walk x.sub path) (walk y.sub path)
  ends path = walk_like inodes ns ms sound.coherent sound'.coherent same path

  agreed : (path : List (List ℕ)) → Agree (walk x.sub path) (walk y.sub path)
  agreed path = agree ns ms (walk x.sub path) (walk y.sub path) (ends path)

  records : (path : List (List ℕ)) → record_at x.sub (walk x.sub path) ≡ record_at y.sub (walk y.sub path)
  records path = record_like inodes ns ms sound.coherent sound'.coherent same (walk x.sub path) (walk y.sub path) (ends path)

  entries_at : (path : List (List ℕ)) → has_entries x.sub (ino_at (walk x.sub path)) ≡ has_entries y.sub (ino_at (walk y.sub path))
  entries_at path = entries_like inodes ns ms sound.coherent sound'.coherent same (ino_at (walk x.sub path)) ∙ ap (has_entries y.sub) ((agreed path).ino)

  spent : indexes_are_spent na ≡ indexes_are_spent nb
  spent = lt-leb (2 ^ 62) na.last_index few ∙ sym (lt-leb (2 ^ 62) nb.last_index few')

  alike : LikeRuns x y
  alike = record { inodes = refl; names = same; last_ino = last }

  number_at : (path : List (List ℕ)) → unwrap_or (ino_at (walk x.sub path)) 0 ≡ unwrap_or (ino_at (walk y.sub path)) 0
  number_at path = ap (λ o. unwrap_or o 0) ((agreed path).ino)

  named : (left left' : List FlatName) → SameSums left left' → (path : List (List ℕ)) (i j ino ino' : ℕ) → ino ≡ ino' → unindexed (new_name left (walk x.sub path) i ino) ≡ unindexed (new_name left' (walk y.sub path) j ino')
  named left left' sums path i j ino ino' inos = new_like inodes ns ms sound.coherent sound'.coherent same left left' sums (walk x.sub path) (walk y.sub path) (ends path) i j ino ino' inos

  -- one name that comes into a free slot
  comes : (left left' : List FlatName) → SameSums left left' → (n m : FlatName) → unindexed n ≡ unindexed m → (Contains left n → ⊥) → (Contains left' m → ⊥) → (do_collide left (n ∷ []) ≡ do_collide left' (m ∷ [])) × SameSums (add_name n left) (add_name m left')
  comes left left' sums n m is absent absent' =
      let all = add_like left left' n m sums is absent absent' in
      (ap (λ b. b || false) (crowded_like (add_name n left) (add_name m left') n m all is), all)

  -- a slot that is free in a subvolume has none of its names
  unheld : (run : RunSub) → IsSound run → (path : List (List ℕ)) (n : FlatName) → is_dirless (walk run.sub path) ≡ false → is_blocked (walk run.sub path) ≡ false → is_taken (walk run.sub path) ≡ false → n.dir ≡ dir_of (walk run.sub path) → n.bytes ≡ bytes_of (walk run.sub path) → Contains run.sub.names n → ⊥
  unheld run ok path n a b c dir bytes has =
      let slot = free_slot (walk run.sub path) a b c in
      slot_is_free run.sub path slot.0 slot.1 (walk_slot run.sub path slot.0 slot.1 None slot.2) n has (sym (dir ∙ ap dir_of slot.2)) (sym (bytes ∙ ap bytes_of slot.2))

  make_like : (path : List (List ℕ)) (inode : InodeRecord) (i j : ℕ) → LikeOutcomes (make x path inode i) (make y path inode j)
  unfolding make
  make_like path inode i j =
      let v : WalkEnd = walk x.sub path in
      let w : WalkEnd = walk y.sub path in
      let at = agreed path in
      let next : na.last_ino + 1 ≡ nb.last_ino + 1 = ap (λ n. n + 1) last in
      let n : FlatName = new_name ns v i (na.last_ino + 1) in
      let m : FlatName = new_name ms w j (nb.last_ino + 1) in
      let is = named ns ms same path i j (na.last_ino + 1) (nb.last_ino + 1) next in
      let rows : List (Bool × Answer) = (is_dirless v, NoEnt) ∷ (is_blocked v, NotDir) ∷ (is_taken v, Exists) ∷ (inos_are_spent na || indexes_are_spent na, TooLarge) ∷ [] in
      let rows' : List (Bool × Answer) = (is_dirless w, NoEnt) ∷ (is_blocked w, NotDir) ∷ (is_taken w, Exists) ∷ (inos_are_spent nb || indexes_are_spent nb, TooLarge) ∷ [] in
      let one_rows : rows ≡ rows' = λ t. (at.dirless t, NoEnt) ∷ (at.blocked t, NotDir) ∷ (at.taken t, Exists) ∷ (nat_le (2 ^ 62) (last t) || spent t, TooLarge) ∷ [] in
      let come : NoneHolds rows → NoneHolds rows' → (do_collide ns (n ∷ []) ≡ do_collide ms (m ∷ [])) × SameSums (add_name n ns) (add_name m ms) = λ none none'.
      comes ns ms same n m is (unheld x sound path n none.0 none.1.0 none.1.1.0 refl refl) (unheld y sound' path m none'.0 none'.1.0 none'.1.1.0 refl refl) in
      like_rows x y alike (make_rows x v n) (make_rows y w m) (make_done x inode n) (make_done y inode m)
      (like_last rows rows' (do_collide ns (n ∷ [])) (do_collide ms (m ∷ [])) Collide one_rows (λ none none'. (come none none').0))
      (λ none none'. (
        ap Number next,
        record {
          inodes = λ t. insert inodes (next t) inode;
          names = (come (none.0, (none.1.0, (none.1.1.0, (none.1.1.1.0, tt)))) (none'.0, (none'.1.0, (none'.1.1.0, (none'.1.1.1.0, tt))))).1;
          last_ino = λ t. max (last t) (next t);
        },
      ))

  link_like : (old new : List (List ℕ)) (i j : ℕ) → LikeOutcomes (link x old new i) (link y old new j)
  unfolding link
  link_like old new i j =
      let from = agreed old in
      let to = agreed new in
      let v : WalkEnd = walk x.sub new in
      let w : WalkEnd = walk y.sub new in
      let u : WalkEnd = walk x.sub old in
      let u' : WalkEnd = walk y.sub old in
      let ino = number_at old in
      let n : FlatName = new_name ns v i (unwrap_or (ino_at u) 0) in
      let m : FlatName = new_name ms w j (unwrap_or (ino_at u') 0) in
      let is = named ns ms same new i j (unwrap_or (ino_at u) 0) (unwrap_or (ino_at u') 0) ino in
      let links : links_of ns n.ino ≡ links_of ms m.ino = links_like ns ms same n.ino ∙ ap (links_of ms) ino in
      let rows : List (Bool × Answer) = (is_absent u || is_dirless v, NoEnt) ∷ (is_blocked u || is_blocked v, NotDir) ∷ (is_dir_there (record_at x.sub u), IsDir) ∷ (is_taken v, Exists) ∷ (nat_le most_links (links_of ns n.ino), Links) ∷ (indexes_are_spent na, TooLarge) ∷ [] in
      let rows' : List (Bool × Answer) = (is_absent u' || is_dirless w, NoEnt) ∷ (is_blocked u' || is_blocked w, NotDir) ∷ (is_dir_there (record_at y.sub u'), IsDir) ∷ (is_taken w, Exists) ∷ (nat_le most_links (links_of ms m.ino), Links) ∷ (indexes_are_spent nb, TooLarge) ∷ [] in
      let one_rows : rows ≡ rows' = λ t. (from.absent t || to.dirless t, NoEnt) ∷ (from.blocked t || to.blocked t, NotDir) ∷ (is_dir_there (records old t), IsDir) ∷ (to.taken t, Exists) ∷ (nat_le most_links (links t), Links) ∷ (spent t, TooLarge) ∷ [] in
      let come : NoneHolds rows → NoneHolds rows' → (do_collide ns (n ∷ []) ≡ do_collide ms (m ∷ [])) × SameSums (add_name n ns) (add_name m ms) = λ none none'.
      comes ns ms same n m is (unheld x sound new n (or_parts _ _ none.0).1 (or_parts _ _ none.1.0).1 none.1.1.1.0 refl refl) (unheld y sound' new m (or_parts _ _ none'.0).1 (or_parts _ _ none'.1.0).1 none'.1.1.1.0 refl refl) in
      like_rows x y alike (link_rows x u v n) (link_rows y u' w m) (link_done x n) (link_done y m)
      (like_last rows rows' (do_collide ns (n ∷ [])) (do_collide ms (m ∷ [])) Collide one_rows (λ none none'. (come none none').0))
      (λ none none'. (
        refl,
        record {
          inodes = refl;
          names = (come (none.0, (none.1.0, (none.1.1.0, (none.1.1.1.0, (none.1.1.1.1.0, (none.1.1.1.1.1.0, tt)))))) (none'.0, (none'.1.0, (none'.1.1.0, (none'.1.1.1.0, (none'.1.1.1.1.0, (none'.1.1.1.1.1.0, tt))))))).1;
          last_ino = last;
        },
      ))

  removal_like : (path : List (List ℕ)) → LikeOutcomes (removal_done x (walk x.sub path)) (removal_done y (walk y.sub path))
  removal_like path = (
    refl,
    record {
      inodes = gone_inodes inodes ns ms sound.coherent sound'.coherent same (walk x.sub path) (walk y.sub path) (ends path);
      names = gone_names inodes ns ms sound.coherent sound'.coherent same (walk x.sub path) (walk y.sub path) (ends path);
      last_ino = last;
    },
  )

  unlink_like : (path : List (List ℕ)) → LikeOutcomes (unlink x path) (unlink y path)
  unfolding unlink
  unlink_like path =
      let at = agreed path in
      let v : WalkEnd = walk x.sub path in
      let w : WalkEnd = walk y.sub path in
      let one_rows : unlink_rows x v ≡ unlink_rows y w = λ t. (at.absent t, NoEnt) ∷ (at.blocked t, NotDir) ∷ (is_dir_there (records path t), IsDir) ∷ [] in
      like_rows x y alike (unlink_rows x v) (unlink_rows y w) (removal_done x v) (removal_done y w) (ap first_answer one_rows) (λ none none'. removal_like path)

  rmdir_like : (path : List (List ℕ)) → LikeOutcomes (rmdir x path) (rmdir y path)
  unfolding rmdir
  rmdir_like path =
      let at = agreed path in
      let v : WalkEnd = walk x.sub path in
      let w : WalkEnd = walk y.sub path in
      let one_rows : rmdir_rows x v ≡ rmdir_rows y w = λ t. (at.absent t, NoEnt) ∷ (at.blocked t || is_other_there (records path t), NotDir) ∷ (not (at.root t) && entries_at path t, NotEmpty) ∷ (at.root t, Loop) ∷ [] in
      like_rows x y alike (rmdir_rows x v) (rmdir_rows y w) (removal_done x v) (removal_done y w) (ap first_answer one_rows) (λ none none'. removal_like path)

  -- another record of the inode at the end of a walk
  put_like : (path : List (List ℕ)) (one two : InodeRecord) → one ≡ two → LikeRuns (with_record_at x (walk x.sub path) one) (with_record_at y (walk y.sub path) two)
  put_like path one two is =
      let at : Option ℕ → InodeRecord → RunSub = λ o inode. elim o [ None ↦ y | Some ino ↦ with_record_of y ino inode ] in
      subst (λ r. LikeRuns (with_record_at x (walk x.sub path) one) r) (λ t. at ((agreed path).ino t) (is t)) (put_one (ino_at (walk x.sub path)) one)
    where
      put_at : (ino : ℕ) (inode : InodeRecord) (o : Option InodeRecord) → LikeRuns (elim o [ None ↦ x | Some old ↦ record x { sub = with_record x.sub ino inode } ]) (elim o [ None ↦ y | Some old ↦ record y { sub = with_record y.sub ino inode } ])
      put_at ino inode None = alike
      put_at ino inode (Some old) = record { inodes = refl; names = same; last_ino = last }

      put_one : (o : Option ℕ) (inode : InodeRecord) → LikeRuns (elim o [ None ↦ x | Some ino ↦ with_record_of x ino inode ]) (elim o [ None ↦ y | Some ino ↦ with_record_of y ino inode ])
      put_one None inode = alike
      put_one (Some ino) inode = put_at ino inode (get inodes ino)

  put_attributes_like : (path : List (List ℕ)) (one two : Attributes) → one ≡ two → LikeRuns (with_attributes_at x (walk x.sub path) one) (with_attributes_at y (walk y.sub path) two)
  put_attributes_like path one two is =
      subst (λ o. LikeRuns (with_attributes_at x (walk x.sub path) one) (elim o [ None ↦ y | Some inode ↦ with_record_at y (walk y.sub path) (with_attributes inode two) ])) (records path) (put_each (record_at x.sub (walk x.sub path)))
    where
      put_each : (o : Option InodeRecord) → LikeRuns (elim o [ None ↦ x | Some inode ↦ with_record_at x (walk x.sub path) (with_attributes inode one) ]) (elim o [ None ↦ y | Some inode ↦ with_record_at y (walk y.sub path) (with_attributes inode two) ])
      put_each None = alike
      put_each (Some inode) = put_like path (with_attributes inode one) (with_attributes inode two) (ap (with_attributes inode) is)

  -- the rows that come first for an operation on a file's contents
  file_rows_like : (path : List (List ℕ)) (rows : List (Bool × Answer)) → file_rows x (walk x.sub path) rows ≡ file_rows y (walk y.sub path) rows
  file_rows_like path rows = let at = agreed path in λ t. (at.absent t, NoEnt) ∷ (at.blocked t, NotDir) ∷ (is_dir_there (records path t), IsDir) ∷ (is_link_there (records path t), Loop) ∷ rows

  write_like : (path : List (List ℕ)) (offset : ℕ) (text : List ℕ) → LikeOutcomes (write x path offset text) (write y path offset text)
  unfolding write
  write_like path offset text =
      let rows : List (Bool × Answer) = (nat_lt most_file_bytes (offset + length text), TooLarge) ∷ [] in
      like_rows x y alike (file_rows x (walk x.sub path) rows) (file_rows y (walk y.sub path) rows) _ _ (ap first_answer (file_rows_like path rows))
      (λ none none'. (refl, put_like path (FileInode (written (file_there (record_at x.sub (walk x.sub path))) offset text)) (FileInode (written (file_there (record_at y.sub (walk y.sub path))) offset text)) (ap (λ o. FileInode (written (file_there o) offset text)) (records path))))

  truncate_like : (path : List (List ℕ)) (size : ℕ) → LikeOutcomes (truncate x path size) (truncate y path size)
  unfolding truncate
  truncate_like path size =
      let rows : List (Bool × Answer) = (nat_lt most_file_bytes size, TooLarge) ∷ [] in
      like_rows x y alike (file_rows x (walk x.sub path) rows) (file_rows y (walk y.sub path) rows) _ _ (ap first_answer (file_rows_like path rows))
      (λ none none'. (refl, put_like path (FileInode (truncated (file_there (record_at x.sub (walk x.sub path))) size)) (FileInode (truncated (file_there (record_at y.sub (walk y.sub path))) size)) (ap (λ o. FileInode (truncated (file_there o) size)) (records path))))

  read_like : (path : List (List ℕ)) (offset count : ℕ) → LikeOutcomes (read x path offset count) (read y path offset count)
  unfolding read
  read_like path offset count =
      like_rows x y alike (file_rows x (walk x.sub path) []) (file_rows y (walk y.sub path) []) _ _ (ap first_answer (file_rows_like path []))
      (λ none none'. (ap (λ o. Bytes (bytes_read (file_there o) offset count)) (records path), alike))

  lookup_like : (path : List (List ℕ)) → LikeOutcomes (lookup x path) (lookup y path)
  unfolding lookup
  lookup_like path =
      let at = agreed path in
      let rows : RunSub → List (Bool × Answer) = λ run. (is_absent (walk run.sub path), NoEnt) ∷ (is_blocked (walk run.sub path), NotDir) ∷ [] in
      let one_rows : rows x ≡ rows y = λ t. (at.absent t, NoEnt) ∷ (at.blocked t, NotDir) ∷ [] in
      like_rows x y alike (rows x) (rows y) _ _ (ap first_answer one_rows) (λ none none'. (ap Number (number_at path), alike))

  set_like : (path : List (List ℕ)) (name value : List ℕ) → LikeOutcomes (set_attribute x path name value) (set_attribute y path name value)
  unfolding set_attribute
  set_like path name value =
      let at = agreed path in
      let attributes : Option InodeRecord → Attributes = λ o. insert (attributes_there o) name value in
      let rows : RunSub → List (Bool × Answer) = λ run. (is_absent (walk run.sub path), NoEnt) ∷ (is_blocked (walk run.sub path), NotDir) ∷ (nat_lt 1024 (length value), TooLarge) ∷ (nat_lt most_item_bytes (xattr_item_length (attributes (record_at run.sub (walk run.sub path))) (name_hash_of name)), Collide) ∷ [] in
      let one_rows : rows x ≡ rows y = λ t. (at.absent t, NoEnt) ∷ (at.blocked t, NotDir) ∷ (nat_lt 1024 (length value), TooLarge) ∷ (nat_lt most_item_bytes (xattr_item_length (attributes (records path t)) (name_hash_of name)), Collide) ∷ [] in
      like_rows x y alike (rows x) (rows y) _ _ (ap first_answer one_rows) (λ none none'. (refl, put_attributes_like path (attributes (record_at x.sub (walk x.sub path))) (attributes (record_at y.sub (walk y.sub path))) (ap attributes (records path))))

  attribute_rows_like : (path : List (List ℕ)) (name : List ℕ) → attribute_rows x (walk x.sub path) name ≡ attribute_rows y (walk y.sub path) name
  attribute_rows_like path name = let at = agreed path in λ t. (at.absent t, NoEnt) ∷ (at.blocked t, NotDir) ∷ (is_none (get (attributes_there (records path t)) name), NoAttr) ∷ []

  remove_attribute_like : (path : List (List ℕ)) (name : List ℕ) → LikeOutcomes (remove_attribute x path name) (remove_attribute y path name)
  unfolding remove_attribute
  remove_attribute_like path name =
      let attributes : Option InodeRecord → Attributes = λ o. remove (attributes_there o) name in
      like_rows x y alike (attribute_rows x (walk x.sub path) name) (attribute_rows y (walk y.sub path) name) _ _ (ap first_answer (attribute_rows_like path name))
      (λ none none'. (refl, put_attributes_like path (attributes (record_at x.sub (walk x.sub path))) (attributes (record_at y.sub (walk y.sub path))) (ap attributes (records path))))

  get_like : (path : List (List ℕ)) (name : List ℕ) → LikeOutcomes (get_attribute x path name) (get_attribute y path name)
  unfolding get_attribute
  get_like path name =
      like_rows x y alike (attribute_rows x (walk x.sub path) name) (attribute_rows y (walk y.sub path) name) _ _ (ap first_answer (attribute_rows_like path name))
      (λ none none'. (ap (λ o. Bytes (unwrap_or (get (attributes_there o) name) [])) (records path), alike))

  -- the names of a subvolume without one that stands in a slot still have those of other inodes
  unpicked : (names : List FlatName) (end : WalkEnd) (q : FlatName) → Contains names q → ((r : FlatName) (dir : ℕ) (bytes : List ℕ) → end ≡ AtSlot dir bytes (Some r) → r ≢ q) → Contains (names_without names end) q
  unpicked names AtRoot q c other = c
  unpicked names (AtSlot dir bytes None) q c other = c
  unpicked names (AtSlot dir bytes (Some r)) q c other = remove_name_keeps r names q c (other r dir bytes refl)
  unpicked names Missing q c other = c
  unpicked names Blocked q c other = c

  two_names : (u v : WalkEnd) → is_one_inode u v ≡ false → (q r : FlatName) (dir dir' : ℕ) (bytes bytes' : List ℕ) → u ≡ AtSlot dir bytes (Some q) → v ≡ AtSlot dir' bytes' (Some r) → q ≢ r
  two_names u v apart q r dir dir' bytes bytes' at at' one =
      let is : is_one_inode u v ≡ nat_eq q.ino r.ino = λ t. is_one_inode (at t) (at' t) in
      true≢false (sym (eq-eqb q.ino r.ino (ap (λ (n : FlatName). n.ino) one)) ∙ sym is ∙ apart)

  entry_names : (sub : Subvolume) (end : WalkEnd) → (without_entry sub end).names ≡ names_without sub.names end
  entry_names sub AtRoot = refl
  entry_names sub (AtSlot dir bytes None) = refl
  entry_names sub (AtSlot dir bytes (Some name)) = refl
  entry_names sub Missing = refl
  entry_names sub Blocked = refl

  -- the names that are left for rename are a set, and have none in the new place's slot
  rename_free : (run : RunSub) → IsSound run → (old new : List (List ℕ)) → is_dirless (walk run.sub new) ≡ false → is_blocked (walk run.sub new) ≡ false → is_root (walk run.sub new) ≡ false
      → IsFreeIn (names_without (without_entry run.sub (walk run.sub new)).names (walk run.sub old)) (dir_of (walk run.sub new)) (bytes_of (walk run.sub new))
  rename_free run ok old new a b c =
      let slot = some_slot (walk run.sub new) a b c in
      subst (λ w. IsFreeIn (names_without (without_entry run.sub w).names (walk run.sub old)) (dir_of w) (bytes_of w)) (sym slot.3) (stays_free run ok new (walk run.sub old) slot.0 slot.1 slot.2 slot.3).1

  rename_like : (old new : List (List ℕ)) (i j : ℕ) → LikeOutcomes (rename x old new i) (rename y old new j)
  unfolding rename
  rename_like old new i j =
      let from = agreed old in
      let to = agreed new in
      let u : WalkEnd = walk x.sub old in
      let u' : WalkEnd = walk y.sub old in
      let v : WalkEnd = walk x.sub new in
      let w : WalkEnd = walk y.sub new in
      let without : Subvolume = without_entry x.sub v in
      let without' : Subvolume = without_entry y.sub w in
      let left : List FlatName = names_without without.names u in
      let left' : List FlatName = names_without without'.names u' in
      let n : FlatName = new_name left v i (unwrap_or (ino_at u) 0) in
      let m : FlatName = new_name left' w j (unwrap_or (ino_at u') 0) in
      let one_inode = one_inode_like ns ms u u' v w (ends old) (ends new) in
      let rows : List (Bool × Answer) = (is_absent u || is_dirless v, NoEnt) ∷ (is_blocked u || is_blocked v, NotDir) ∷ (is_one_inode u v, Plain) ∷ (is_dir_there (record_at x.sub u) && is_other_there (record_at x.sub v), NotDir)
      ∷ (not (is_root v) && (is_other_there (record_at x.sub u) && is_dir_there (record_at x.sub v)), IsDir) ∷ (not (is_root v) && (is_dir_there (record_at x.sub v) && has_entries x.sub (ino_at v)), NotEmpty)
      ∷ (is_root u || (is_root v || (is_dir_there (record_at x.sub u) && is_below old new)), Loop) ∷ (indexes_are_spent na, TooLarge) ∷ [] in
      let rows' : List (Bool × Answer) = (is_absent u' || is_dirless w, NoEnt) ∷ (is_blocked u' || is_blocked w, NotDir) ∷ (is_one_inode u' w, Plain) ∷ (is_dir_there (record_at y.sub u') && is_other_there (record_at y.sub w), NotDir)
      ∷ (not (is_root w) && (is_other_there (record_at y.sub u') && is_dir_there (record_at y.sub w)), IsDir) ∷ (not (is_root w) && (is_dir_there (record_at y.sub w) && has_entries y.sub (ino_at w)), NotEmpty)
      ∷ (is_root u' || (is_root w || (is_dir_there (record_at y.sub u') && is_below old new)), Loop) ∷ (indexes_are_spent nb, TooLarge) ∷ [] in
      let one_rows : rows ≡ rows' = λ t. (from.absent t || to.dirless t, NoEnt) ∷ (from.blocked t || to.blocked t, NotDir) ∷ (one_inode t, Plain) ∷ (is_dir_there (records old t) && is_other_there (records new t), NotDir)
      ∷ (not (to.root t) && (is_other_there (records old t) && is_dir_there (records new t)), IsDir) ∷ (not (to.root t) && (is_dir_there (records new t) && entries_at new t), NotEmpty)
      ∷ (from.root t || (to.root t || (is_dir_there (records old t) && is_below old new)), Loop) ∷ (spent t, TooLarge) ∷ [] in
      let sums : is_one_inode u v ≡ false → is_one_inode u' w ≡ false → SameSums left left' = λ apart apart'.
      less_like inodes ns ms sound.coherent sound'.coherent same without.names without'.names (gone_names inodes ns ms sound.coherent sound'.coherent same v w (ends new))
      (subst (λ l. is_name_set l ≡ true) (sym (entry_names x.sub v)) (names_without_set ns v sound.coherent.in_order)) (subst (λ l. is_name_set l ≡ true) (sym (entry_names y.sub w)) (names_without_set ms w sound'.coherent.in_order)) u u' (ends old)
      (λ q dir bytes at c. subst (λ l. Contains l q) (sym (entry_names x.sub v)) (unpicked ns v q c (λ r dir' bytes' at' one. two_names u v apart q r dir dir' bytes bytes' at at' (sym one))))
      (λ q dir bytes at c. subst (λ l. Contains l q) (sym (entry_names y.sub w)) (unpicked ms w q c (λ r dir' bytes' at' one. two_names u' w apart' q r dir dir' bytes bytes' at at' (sym one)))) in
      let come : NoneHolds rows → NoneHolds rows' → (do_collide left (n ∷ []) ≡ do_collide left' (m ∷ [])) × SameSums (add_name n left) (add_name m left') = λ none none'.
      let all = sums none.1.1.0 none'.1.1.0 in
      let below : Bool = is_dir_there (record_at x.sub u) && is_below old new in
      let below' : Bool = is_dir_there (record_at y.sub u') && is_below old new in
      let loops = or_parts (is_root u) (is_root v || below) none.1.1.1.1.1.1.0 in
      let loops' = or_parts (is_root u') (is_root w || below') none'.1.1.1.1.1.1.0 in
      comes left left' all n m (named left left' all new i j (unwrap_or (ino_at u) 0) (unwrap_or (ino_at u') 0) (number_at old))
      (λ c. rename_free x sound old new (or_parts _ _ none.0).1 (or_parts _ _ none.1.0).1 (or_parts (is_root v) below loops.1).0 n c refl refl)
      (λ c. rename_free y sound' old new (or_parts _ _ none'.0).1 (or_parts _ _ none'.1.0).1 (or_parts (is_root w) below' loops'.1).0 m c refl refl) in
      like_rows x y alike (rename_rows x old new u v left n) (rename_rows y old new u' w left' m) (rename_done x without left n) (rename_done y without' left' m)
      (like_last rows rows' (do_collide left (n ∷ [])) (do_collide left' (m ∷ [])) Collide one_rows (λ none none'. (come none none').0))
      (λ none none'. (
        refl,
        record {
          inodes = gone_inodes inodes ns ms sound.coherent sound'.coherent same v w (ends new);
          names = (come (none.0, (none.1.0, (none.1.1.0, (none.1.1.1.0, (none.1.1.1.1.0, (none.1.1.1.1.1.0, (none.1.1.1.1.1.1.0, (none.1.1.1.1.1.1.1.0, tt))))))))
              (none'.0, (none'.1.0, (none'.1.1.0, (none'.1.1.1.0, (none'.1.1.1.1.0, (none'.1.1.1.1.1.0, (none'.1.1.1.1.1.1.0, (none'.1.1.1.1.1.1.1.0, tt))))))))).1;
          last_ino = last;
        },
      ))

  -- the names that are left for exchange have none in either slot, and the two inodes are two
  record Freed (run : RunSub) (one two : List (List ℕ)) : Type 0 where
    first : (n : FlatName) → n.dir ≡ dir_of (walk run.sub one) → n.bytes ≡ bytes_of (walk run.sub one) → Contains (names_without (names_without run.sub.names (walk run.sub one)) (walk run.sub two)) n → ⊥
    second : (n : FlatName) → n.dir ≡ dir_of (walk run.sub two) → n.bytes ≡ bytes_of (walk run.sub two) → Contains (names_without (names_without run.sub.names (walk run.sub one)) (walk run.sub two)) n → ⊥
    apart : unwrap_or (ino_at (walk run.sub one)) 0 ≢ unwrap_or (ino_at (walk run.sub two)) 0

  exchange_free : (run : RunSub) → IsSound run → (one two : List (List ℕ)) → (is_absent (walk run.sub one) || is_absent (walk run.sub two)) ≡ false → (is_blocked (walk run.sub one) || is_blocked (walk run.sub two)) ≡ false
      → is_one_inode (walk run.sub one) (walk run.sub two) ≡ false → is_root (walk run.sub one) ≡ false → is_root (walk run.sub two) ≡ false → Freed run one two
  exchange_free run ok one two absent blocked two_inodes root_one root_two =
      let u : WalkEnd = walk run.sub one in
      let v : WalkEnd = walk run.sub two in
      let hold_a = holds_name run.sub one (or_parts _ _ absent).0 (or_parts _ _ blocked).0 root_one in
      let hold_b = holds_name run.sub two (or_parts _ _ absent).1 (or_parts _ _ blocked).1 root_two in
      let a : FlatName = hold_a.name in
      let b : FlatName = hold_b.name in
      let a_at : WalkEnd = AtSlot a.dir a.bytes (Some a) in
      let b_at : WalkEnd = AtSlot b.dir b.bytes (Some b) in
      let one_inode : is_one_inode u v ≡ nat_eq a.ino b.ino = λ k. is_one_inode (hold_a.at k) (hold_b.at k) in
      let without_a : List FlatName = names_without run.sub.names a_at in
      let left : List FlatName = names_without without_a b_at in
      let free_a : IsFreeIn left a.dir a.bytes = λ q c. slot_freed run.sub ok.coherent one run.sub.names (λ r d. d) a.dir a.bytes (Some a) hold_a.at q (names_without_part without_a b_at q c) in
      let free_b : IsFreeIn left b.dir b.bytes = slot_freed run.sub ok.coherent two without_a (names_without_part run.sub.names a_at) b.dir b.bytes (Some b) hold_b.at in
      let moved : names_without (names_without run.sub.names u) v ≡ left = λ k. names_without (names_without run.sub.names (hold_a.at k)) (hold_b.at k) in
      record {
        first = λ n dir bytes c. free_a n (subst (λ l. Contains l n) moved c) (sym (dir ∙ ap dir_of hold_a.at)) (sym (bytes ∙ ap bytes_of hold_a.at));
        second = λ n dir bytes c. free_b n (subst (λ l. Contains l n) moved c) (sym (dir ∙ ap dir_of hold_b.at)) (sym (bytes ∙ ap bytes_of hold_b.at));
        apart = λ same_ino.
            let equal : a.ino ≡ b.ino = sym (ap (λ e. unwrap_or (ino_at e) 0) hold_a.at) ∙ same_ino ∙ ap (λ e. unwrap_or (ino_at e) 0) hold_b.at in
            true≢false (sym (eq-eqb a.ino b.ino equal) ∙ sym one_inode ∙ two_inodes);
      }

  exchange_like : (one two : List (List ℕ)) (i j k l : ℕ) → LikeOutcomes (exchange x one two i j) (exchange y one two k l)
  unfolding exchange
  exchange_like one two i j k l =
      let from = agreed one in
      let to = agreed two in
      let u : WalkEnd = walk x.sub one in
      let u' : WalkEnd = walk y.sub one in
      let v : WalkEnd = walk x.sub two in
      let w : WalkEnd = walk y.sub two in
      let left : List FlatName = names_without (names_without ns u) v in
      let left' : List FlatName = names_without (names_without ms u') w in
      let a : FlatName = new_name left u i (unwrap_or (ino_at v) 0) in
      let b : FlatName = new_name left v j (unwrap_or (ino_at u) 0) in
      let a' : FlatName = new_name left' u' k (unwrap_or (ino_at w) 0) in
      let b' : FlatName = new_name left' w l (unwrap_or (ino_at u') 0) in
      let made : List FlatName = a ∷ b ∷ [] in
      let made' : List FlatName = a' ∷ b' ∷ [] in
      let one_inode = one_inode_like ns ms u u' v w (ends one) (ends two) in
      let rows : List (Bool × Answer) = (is_absent u || is_absent v, NoEnt) ∷ (is_blocked u || is_blocked v, NotDir) ∷ (is_one_inode u v, Plain) ∷ (is_root u || (is_root v || (is_below one two || is_below two one)), Loop) ∷ (indexes_are_spent na, TooLarge) ∷ [] in
      let rows' : List (Bool × Answer) = (is_absent u' || is_absent w, NoEnt) ∷ (is_blocked u' || is_blocked w, NotDir) ∷ (is_one_inode u' w, Plain) ∷ (is_root u' || (is_root w || (is_below one two || is_below two one)), Loop) ∷ (indexes_are_spent nb, TooLarge) ∷ [] in
      let one_rows : rows ≡ rows' = λ t. (from.absent t || to.absent t, NoEnt) ∷ (from.blocked t || to.blocked t, NotDir) ∷ (one_inode t, Plain) ∷ (from.root t || (to.root t || (is_below one two || is_below two one)), Loop) ∷ (spent t, TooLarge) ∷ [] in
      let kept : SameSums (names_without ns u) (names_without ms u') = less_like inodes ns ms sound.coherent sound'.coherent same ns ms same sound.coherent.in_order sound'.coherent.in_order u u' (ends one) (λ q dir bytes at c. c) (λ q dir bytes at c. c) in
      let sums : is_one_inode u v ≡ false → is_one_inode u' w ≡ false → SameSums left left' = λ apart apart'.
      less_like inodes ns ms sound.coherent sound'.coherent same (names_without ns u) (names_without ms u') kept (names_without_set ns u sound.coherent.in_order) (names_without_set ms u' sound'.coherent.in_order) v w (ends two)
      (λ q dir bytes at c. unpicked ns u q c (λ r dir' bytes' at' same_name. two_names u v apart r q dir' dir bytes' bytes at' at same_name))
      (λ q dir bytes at c. unpicked ms u' q c (λ r dir' bytes' at' same_name. two_names u' w apart' r q dir' dir bytes' bytes at' at same_name)) in
      let come : NoneHolds rows → NoneHolds rows' → (do_collide left made ≡ do_collide left' made') × SameSums (add_name b (add_name a left)) (add_name b' (add_name a' left')) = λ none none'.
      let all = sums none.1.1.0 none'.1.1.0 in
      let loops = or_parts _ _ none.1.1.1.0 in
      let loops' = or_parts _ _ none'.1.1.1.0 in
      let free = exchange_free x sound one two none.0 none.1.0 none.1.1.0 loops.0 (or_parts _ _ loops.1).0 in
      let free' = exchange_free y sound' one two none'.0 none'.1.0 none'.1.1.0 loops'.0 (or_parts _ _ loops'.1).0 in
      let is_a = named left left' all one i k (unwrap_or (ino_at v) 0) (unwrap_or (ino_at w) 0) (number_at two) in
      let is_b = named left left' all two j l (unwrap_or (ino_at u) 0) (unwrap_or (ino_at u') 0) (number_at one) in
      let with_a = add_like left left' a a' all is_a (free.first a refl refl) (free'.first a' refl refl) in
      let with_b = add_like (add_name a left) (add_name a' left') b b' with_a is_b
      (λ c. elim (add_name_cases a left b c) [ inl one_name ↦ free.apart (sym (ap (λ (n : FlatName). n.ino) one_name)) | inr old ↦ free.second b refl refl old ])
      (λ c. elim (add_name_cases a' left' b' c) [ inl one_name ↦ free'.apart (sym (ap (λ (n : FlatName). n.ino) one_name)) | inr old ↦ free'.second b' refl refl old ]) in
      let crowd_a = crowded_like (add_name b (add_name a left)) (add_name b' (add_name a' left')) a a' with_b is_a in
      let crowd_b = crowded_like (add_name b (add_name a left)) (add_name b' (add_name a' left')) b b' with_b is_b in
      (λ t. (crowd_a t || (crowd_b t || false)), with_b) in
      like_rows x y alike (exchange_rows x one two u v left made) (exchange_rows y one two u' w left' made') (exchange_done x left made) (exchange_done y left' made')
      (like_last rows rows' (do_collide left made) (do_collide left' made') Collide one_rows (λ none none'. (come none none').0))
      (λ none none'. (
        refl,
        record {
          inodes = refl;
          names = (come (none.0, (none.1.0, (none.1.1.0, (none.1.1.1.0, (none.1.1.1.1.0, tt))))) (none'.0, (none'.1.0, (none'.1.1.0, (none'.1.1.1.0, (none'.1.1.1.1.0, tt)))))).1;
          last_ino = last;
        },
      ))

  -- each operation
  each_like : (op : Op) (i j : List ℕ) → LikeOutcomes (outcome_of x op i) (outcome_of y op j)
  each_like (Create place) i j = make_like place.path new_file (slice_index i 0) (slice_index j 0)
  each_like (Mkdir place) i j = make_like place.path new_dir (slice_index i 0) (slice_index j 0)
  each_like (Symlink place target) i j = make_like place.path (new_link target) (slice_index i 0) (slice_index j 0)
  each_like (Link old new) i j = link_like old.path new.path (slice_index i 0) (slice_index j 0)
  each_like (Unlink place) i j = unlink_like place.path
  each_like (Rmdir place) i j = rmdir_like place.path
  each_like (Rename old new) i j = rename_like old.path new.path (slice_index i 0) (slice_index j 0)
  each_like (Exchange one two) i j = exchange_like one.path two.path (slice_index i 0) (slice_index i 1) (slice_index j 0) (slice_index j 1)
  each_like (Lookup place) i j = lookup_like place.path
  each_like (Write place offset text) i j = write_like place.path offset text
  each_like (Truncate place size) i j = truncate_like place.path size
  each_like (Read place offset count) i j = read_like place.path offset count
  each_like (SetAttr place name value) i j = set_like place.path name value
  each_like (DelAttr place name) i j = remove_attribute_like place.path name
  each_like (GetAttr place name) i j = get_like place.path name

pub outcome_like : (s t : RunSub) → IsSound s → IsSound t → LikeRuns s t → s.numbers.last_index < 2 ^ 62 → t.numbers.last_index < 2 ^ 62 → (op : Op) (i j : List ℕ) → LikeOutcomes (outcome_of s op i) (outcome_of t op j)
outcome_like s t sound sound' like few few' op i j =
    let same_inodes : RunSub = record { sub = record { inodes = s.sub.inodes; names = t.sub.names }; numbers = t.numbers } in
    let is : same_inodes ≡ t = λ k. record { sub = record { inodes = like.inodes k; names = t.sub.names }; numbers = t.numbers } in
    subst (λ r. LikeOutcomes (outcome_of s op i) (outcome_of r op j)) is
    (each_like s.sub.inodes s.sub.names t.sub.names s.numbers t.numbers sound (subst IsSound (sym is) sound') like.names like.last_ino few few' op i j)
