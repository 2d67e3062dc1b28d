-- The volumes at two points of a history: what the later has was there at the earlier, or came between.
use Rattle.std.proofs.Common.{◌≡◌, ℕ, zero, suc, ◌<◌, ◌≤◌, true, false, cond, List, [], ◌∷◌, length, take, Option, Some, None, refl, sym, ap, subst, ◌∙◌, arith, inl, inr, ◌⊎◌}
use Rattle.std.specs.Bool.{nat_le}
use Rattle.std.specs.Option.{option_map}
use Rattle.std.specs.List.{Contains}
use Rattle.std.specs.FinMap.{get}
use Rattle.std.proofs.lemmas.Bool.{leb-true, leb-false}
use Rattle.flat_model.specs.Records.{InodeRecord, FileInode, DirInode, LinkInode, at_creation, kind_of}
use Rattle.flat_model.specs.Names.{FlatName}
use Rattle.flat_model.specs.Volume.{Subvolume, Volume, RunSub, RunVolume, last_index_in, mounted}
use Rattle.flat_model.specs.Coherent.{IsCoherentVolume}
use Rattle.flat_model.specs.Step.{Operated, MayCome, IsHistory, IsChoice, step, after_one, after_all, volume_at}
use Rattle.flat_model.specs.Running.{IsSound, IsSoundVolume}
use Rattle.flat_model.proofs.Maps.{some_same, some_none}
use Rattle.flat_model.proofs.Steps.{after_one_sound}
use Rattle.flat_model.proofs.Histories.{get_volume_of, mounted_sound}
use Rattle.logged_volume.specs.Agreement.{Agree}
use Rattle.commit_history.specs.Survival.{IsAtPoint, IsMadeBetween}
use Rattle.commit_history.proofs.Growth.{GrewOnce, WasThere, grew_not, step_grows}

-- ---- more than one operation

-- a subvolume after some operations: names and inodes that were there, or above all that were
pub record Grew (old new : RunSub) : Type 0 where
  pub names : (name : FlatName) → Contains new.sub.names name → Contains old.sub.names name ⊎ (last_index_in old.numbers name.dir < name.index)
  pub inodes : (ino : ℕ) (inode : InodeRecord) → get new.sub.inodes ino ≡ Some inode → WasThere old ino inode ⊎ (old.numbers.last_ino < ino)
  pub indexes : (dir : ℕ) → last_index_in old.numbers dir ≤ last_index_in new.numbers dir
  pub inos : old.numbers.last_ino ≤ new.numbers.last_ino

of_once : (old new : RunSub) → GrewOnce old new → Grew old new
of_once old new once = record {
  names = once.names;
  inodes = λ ino inode e. elim (once.inodes ino inode e) [ inl was ↦ inl was | inr new_one ↦ inr new_one.0 ];
  indexes = once.indexes;
  inos = once.inos;
}

grew_then : (one two three : RunSub) → Grew one two → Grew two three → Grew one three
grew_then one two three first second = record {
  names = λ name c. elim (second.names name c) [
    | inl kept ↦ first.names name kept
    | inr above ↦ inr (let low = first.indexes name.dir in omega (arith, above, low))
  ];
  inodes = λ ino inode e. elim (second.inodes ino inode e) [
    | inl was ↦ elim (first.inodes ino was.0 was.1) [
      | inl old ↦ inl (old.0, old.1, old.2 ∙ was.2)
      | inr above ↦ inr above
    ]
    | inr above ↦ inr (let low = first.inos in omega (arith, above, low))
  ];
  indexes = λ dir. let a = first.indexes dir in let b = second.indexes dir in omega (arith, a, b);
  inos = let a = first.inos in let b = second.inos in omega (arith, a, b);
}

-- what an operation of a history leaves
pub one_grows : (run : RunVolume) (operated : Operated) → MayCome run operated → (id : ℕ) (new : RunSub) → get (after_one run operated) id ≡ Some new → (old : RunSub) × (get run id ≡ Some old) × GrewOnce old new
one_grows run operated may =
    elim operated.short as (λ b. cond b (operated.indexes ≡ 0 ∷ 0 ∷ []) (IsChoice run operated.op operated.indexes) → (id : ℕ) (new : RunSub) → get (cond b run (step run operated.op operated.indexes).next) id ≡ Some new → (old : RunSub) × (get run id ≡ Some old) × GrewOnce old new) [
      | true ↦ λ _ id new e. (new, e, grew_not new)
      | false ↦ λ choice. step_grows run operated.op operated.indexes choice.next
    ] may.choice

-- from the first point to any
pub grew_to : (point : ℕ) (run : RunVolume) (history : List Operated) → IsHistory run history → (id : ℕ) (new : RunSub) → get (after_all run (take point history)) id ≡ Some new → (old : RunSub) × (get run id ≡ Some old) × Grew old new
grew_to zero run history legal id new e = (new, e, of_once new new (grew_not new))
grew_to (suc point) run [] legal id new e = (new, e, of_once new new (grew_not new))
grew_to (suc point) run (operated ∷ history) legal id new e =
    let rest = grew_to point (after_one run operated) history legal.1 id new e in
    let first = one_grows run operated legal.0 id rest.0 rest.1 in
    (first.0, first.1, grew_then first.0 rest.0 new (of_once first.0 rest.0 first.2) rest.2)

-- from one point to a later one
pub grew_between : (early late : ℕ) (run : RunVolume) (history : List Operated) → early ≤ late → IsHistory run history → (id : ℕ) (new : RunSub) → get (after_all run (take late history)) id ≡ Some new
    → (old : RunSub) × (get (after_all run (take early history)) id ≡ Some old) × Grew old new
grew_between zero late run history before legal id new e = grew_to late run history legal id new e
grew_between (suc early) zero run history before legal id new e = absurd (omega (arith, before))
grew_between (suc early) (suc late) run [] before legal id new e = (new, e, of_once new new (grew_not new))
grew_between (suc early) (suc late) run (operated ∷ history) before legal id new e = grew_between early late (after_one run operated) history (omega (arith, before)) legal.1 id new e

-- the volume in its run at each point of a history is sound
pub sound_at : (point : ℕ) (run : RunVolume) (history : List Operated) → IsSoundVolume run → IsHistory run history → IsSoundVolume (after_all run (take point history))
sound_at zero run history sound legal = sound
sound_at (suc point) run [] sound legal = sound
sound_at (suc point) run (operated ∷ history) sound legal = sound_at point (after_one run operated) history (after_one_sound run sound operated legal.0) legal.1

-- ---- creation

-- what stays of an inode that stays
same_creation : (mid new : RunSub) → IsSound mid → Grew mid new → (ino : ℕ) (now inode : InodeRecord) → get mid.sub.inodes ino ≡ Some now → get new.sub.inodes ino ≡ Some inode → at_creation now ≡ at_creation inode
same_creation mid new sound grew ino now inode here there = elim (grew.inodes ino inode there) [
  | inl was ↦ ap at_creation (some_same now was.0 (sym here ∙ was.1)) ∙ was.2
  | inr above ↦ absurd (let below = sound.covered.inos ino now here in omega (arith, above, below))
]

-- an inode that isn't there first and is there later was made between: at that point its record is the one at creation
record WasMade (run : RunVolume) (history : List Operated) (id ino late : ℕ) (inode : InodeRecord) : Type 0 where
  point : ℕ
  there : RunSub
  after_first : 1 ≤ point
  not_after : point ≤ late
  at : get (after_all run (take point history)) id ≡ Some there
  fresh : get there.sub.inodes ino ≡ Some (at_creation inode)

made_by : (late : ℕ) (run : RunVolume) (history : List Operated) → IsSoundVolume run → IsHistory run history → (id ino : ℕ) (old new : RunSub) (inode : InodeRecord)
    → get run id ≡ Some old → get old.sub.inodes ino ≡ None → get (after_all run (take late history)) id ≡ Some new → get new.sub.inodes ino ≡ Some inode → WasMade run history id ino late inode
made_by zero run history sound legal id ino old new inode has absent later there =
    absurd (some_none inode (sym there ∙ ap (λ (s : RunSub). get s.sub.inodes ino) (some_same new old (sym later ∙ has)) ∙ absent))
made_by (suc late) run [] sound legal id ino old new inode has absent later there =
    absurd (some_none inode (sym there ∙ ap (λ (s : RunSub). get s.sub.inodes ino) (some_same new old (sym later ∙ has)) ∙ absent))
made_by (suc late) run (operated ∷ history) sound legal id ino old new inode has absent later there =
    let rest = grew_to late (after_one run operated) history legal.1 id new later in
    let mid : RunSub = rest.0 in
    let first = one_grows run operated legal.0 id mid rest.1 in
    let was_absent : get first.0.sub.inodes ino ≡ None = ap (λ (s : RunSub). get s.sub.inodes ino) (some_same first.0 old (sym first.1 ∙ has)) ∙ absent in
    elim (get mid.sub.inodes ino) as (λ o. get mid.sub.inodes ino ≡ o → WasMade run (operated ∷ history) id ino (suc late) inode) [
      | None ↦ λ still.
          let made = made_by late (after_one run operated) history (after_one_sound run sound operated legal.0) legal.1 id ino mid new inode rest.1 still later there in
          record { point = suc made.point; there = made.there; after_first = omega arith; not_after = let b = made.not_after in omega (arith, b); at = made.at; fresh = made.fresh }
      | Some now ↦ λ here. elim (first.2.inodes ino now here) [
        | inl was ↦ absurd (some_none was.0 (sym was.1 ∙ was_absent))
        | inr fresh ↦ record {
          point = 1;
          there = mid;
          after_first = omega arith;
          not_after = omega arith;
          at = rest.1;
          fresh = here ∙ ap Some (fresh.1 ∙ same_creation mid new (after_one_sound run sound operated legal.0 id mid rest.1) rest.2 ino now inode here there);
        }
      ]
    ] refl

-- the same from a later point on
made_between : (early late : ℕ) (run : RunVolume) (history : List Operated) → early ≤ late → IsSoundVolume run → IsHistory run history → (id ino : ℕ) (old new : RunSub) (inode : InodeRecord)
    → get (after_all run (take early history)) id ≡ Some old → get old.sub.inodes ino ≡ None → get (after_all run (take late history)) id ≡ Some new → get new.sub.inodes ino ≡ Some inode
    → (made : WasMade run history id ino late inode) × (early < made.point)
made_between zero late run history before sound legal id ino old new inode has absent later there =
    let made = made_by late run history sound legal id ino old new inode has absent later there in
    (made, let b = made.after_first in omega (arith, b))
made_between (suc early) zero run history before sound legal id ino old new inode has absent later there = absurd (omega (arith, before))
made_between (suc early) (suc late) run [] before sound legal id ino old new inode has absent later there =
    absurd (some_none inode (sym there ∙ ap (λ (s : RunSub). get s.sub.inodes ino) (some_same new old (sym later ∙ has)) ∙ absent))
made_between (suc early) (suc late) run (operated ∷ history) before sound legal id ino old new inode has absent later there =
    let rest = made_between early late (after_one run operated) history (omega (arith, before)) (after_one_sound run sound operated legal.0) legal.1 id ino old new inode has absent later there in
    (record { point = suc rest.0.point; there = rest.0.there; after_first = omega arith; not_after = let b = rest.0.not_after in omega (arith, b); at = rest.0.at; fresh = rest.0.fresh }, let b = rest.1 in omega (arith, b))

-- ---- flat volumes at points

-- the subvolume in its run at a point
pub run_at : (volume : Volume) (history : List Operated) (id point : ℕ) (sub : Subvolume) → get (volume_at volume history point) id ≡ Some sub → (run : RunSub) × (get (after_all (mounted volume) (take point history)) id ≡ Some run) × (sub ≡ run.sub)
run_at volume history id point sub e = found (get (after_all (mounted volume) (take point history)) id) refl
  where
    found : (o : Option RunSub) → get (after_all (mounted volume) (take point history)) id ≡ o → (run : RunSub) × (get (after_all (mounted volume) (take point history)) id ≡ Some run) × (sub ≡ run.sub)
    found None at = absurd (some_none sub (sym e ∙ get_volume_of (after_all (mounted volume) (take point history)) id ∙ ap (option_map (λ (s : RunSub). s.sub)) at))
    found (Some run) at = (run, at, some_same sub run.sub (sym e ∙ get_volume_of (after_all (mounted volume) (take point history)) id ∙ ap (option_map (λ (s : RunSub). s.sub)) at))

pub sub_of_run : (volume : Volume) (history : List Operated) (id point : ℕ) (run : RunSub) → get (after_all (mounted volume) (take point history)) id ≡ Some run → get (volume_at volume history point) id ≡ Some run.sub
sub_of_run volume history id point run at = get_volume_of (after_all (mounted volume) (take point history)) id ∙ ap (option_map (λ (s : RunSub). s.sub)) at

kind_at_creation : (inode : InodeRecord) → kind_of (at_creation inode) ≡ kind_of inode
kind_at_creation (FileInode file) = refl
kind_at_creation (DirInode dir) = refl
kind_at_creation (LinkInode link) = refl

-- a sound subvolume agrees with what it grew to
grew_agrees : (old new : RunSub) → IsSound old → Grew old new → Agree old.sub new.sub
grew_agrees old new sound grew = record {
  kinds = λ ino here there a b. elim (grew.inodes ino there b) [
    | inl was ↦ sym (kind_at_creation here) ∙ ap kind_of (ap at_creation (some_same here was.0 (sym a ∙ was.1)) ∙ was.2) ∙ kind_at_creation there
    | inr above ↦ absurd (let below = sound.covered.inos ino here a in omega (arith, above, below))
  ];
  indexes = λ here there a b same_dir same_index. elim (grew.names there b) [
    | inl kept ↦ sound.coherent.no_index_twice here there a kept same_dir same_index
    | inr above ↦ absurd (
        let below = sound.covered.indexes here a in
        let moved : last_index_in old.numbers here.dir < there.index = subst (λ d. last_index_in old.numbers d < there.index) (sym same_dir) above in
        omega (arith, moved, below, same_index))
  ];
}

pub agree_sym : (one two : Subvolume) → Agree one two → Agree two one
agree_sym one two agree = record {
  kinds = λ ino here there a b. sym (agree.kinds ino there here b a);
  indexes = λ here there a b same_dir same_index. sym (agree.indexes there here b a (sym same_dir) (sym same_index));
}

agree_up : (volume : Volume) (history : List Operated) → IsCoherentVolume volume → IsHistory (mounted volume) history → (id early late : ℕ) (one two : Subvolume) → early ≤ late
    → get (volume_at volume history early) id ≡ Some one → get (volume_at volume history late) id ≡ Some two → Agree one two
agree_up volume history coherent legal id early late one two before a b =
    let first = run_at volume history id early one a in
    let second = run_at volume history id late two b in
    let grew = grew_between early late (mounted volume) history before legal id second.0 second.1 in
    let same : grew.0 ≡ first.0 = some_same grew.0 first.0 (sym grew.1 ∙ first.1) in
    let sound = sound_at early (mounted volume) history (mounted_sound volume coherent) legal id first.0 first.1 in
    let own = grew_agrees first.0 second.0 sound (subst (λ r. Grew r second.0) same grew.2) in
    subst (λ s. Agree s two) (sym first.2) (subst (λ s. Agree first.0.sub s) (sym second.2) own)

-- subvolumes at any two points of a history agree
pub points_agree : (volume : Volume) (history : List Operated) → IsCoherentVolume volume → IsHistory (mounted volume) history → (id one_point two_point : ℕ) (one two : Subvolume)
    → get (volume_at volume history one_point) id ≡ Some one → get (volume_at volume history two_point) id ≡ Some two → Agree one two
points_agree volume history coherent legal id one_point two_point one two a b =
    elim (le_or one_point two_point) [
      | inl before ↦ agree_up volume history coherent legal id one_point two_point one two before a b
      | inr after ↦ agree_sym two one (agree_up volume history coherent legal id two_point one_point two one after b a)
    ]
  where
    le_or : (m n : ℕ) → (m ≤ n) ⊎ (n ≤ m)
    le_or m n = elim (nat_le m n) as (λ b. nat_le m n ≡ b → (m ≤ n) ⊎ (n ≤ m)) [
      | true ↦ λ t. inl (leb-true m n t)
      | false ↦ λ f. inr (let less = leb-false m n f in omega (arith, less))
    ] refl

-- an inode that isn't there at one point and is there at a later one
pub inode_made : (volume : Volume) (history : List Operated) → IsCoherentVolume volume → IsHistory (mounted volume) history → (id ino early late : ℕ) (one two : Subvolume) (inode : InodeRecord) → early ≤ late
    → IsAtPoint volume history id early one → get one.inodes ino ≡ None → IsAtPoint volume history id late two → get two.inodes ino ≡ Some inode → IsMadeBetween volume history id ino early late inode
inode_made volume history coherent legal id ino early late one two inode before a absent b there =
    let first = run_at volume history id early one a.1 in
    let second = run_at volume history id late two b.1 in
    let made = made_between early late (mounted volume) history before (mounted_sound volume coherent) legal id ino first.0 second.0 inode first.1 (ap (λ (s : Subvolume). get s.inodes ino) (sym first.2) ∙ absent) second.1 (ap (λ (s : Subvolume). get s.inodes ino) (sym second.2) ∙ there) in
    record {
      point = made.0.point;
      there = made.0.there.sub;
      later = made.1;
      not_after = made.0.not_after;
      at = (let bound : late ≤ length history = b.0 in let own = made.0.not_after in omega (arith, bound, own), sub_of_run volume history id made.0.point made.0.there made.0.at);
      fresh = made.0.fresh;
    }
