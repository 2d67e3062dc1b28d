-- A volume goes on by each operation, and by each history.
use Rattle.std.proofs.Common.{◌≡◌, ◌≢◌, ℕ, zero, suc, ◌<◌, ◌≤◌, ◌+◌, ◌*◌, Bool, true, false, cond, List, [], ◌∷◌, take, Option, Some, None, refl, sym, ap, subst, ◌∙◌, arith, inl, inr, ◌⊎◌}
use Rattle.std.specs.Option.{unwrap_or, is_some, option_map}
use Rattle.std.specs.List.{Contains, fold}
use Rattle.std.specs.FinMap.{get, insert}
use Rattle.std.proofs.lemmas.Bool.{true≢false, cases_eq}
use Rattle.flat_model.specs.declared.op.Op.{Op}
use Rattle.flat_model.specs.Records.{InodeRecord, at_creation}
use Rattle.flat_model.specs.Names.{FlatName}
use Rattle.flat_model.specs.Volume.{Subvolume, Volume, RunNumbers, RunSub, RunVolume, last_index_in, note_name, mounted, volume_of}
use Rattle.flat_model.specs.Coherent.{IsCoherentVolume}
use Rattle.flat_model.specs.Operations.{Outcome}
use Rattle.flat_model.specs.Refusal.{is_refusal}
use Rattle.flat_model.specs.Needs.{blocks_and_items, least_need, need, removed_from, removed_by}
use Rattle.flat_model.specs.Step.{VolumeOutcome, AreNextIndexes, IsChoice, IsSpelled, IsInLimits, MayCome, Operated, IsHistory, after_one, after_all, numbers_in, outcome_of, place_of, step, volume_at}
use Rattle.flat_model.specs.Running.{AreCovered, IsSound, IsSoundVolume}
use Rattle.flat_model.proofs.Lists.{contains_none, contains_cases}
use Rattle.flat_model.proofs.Maps.{some_same, some_none, get_insert_same, get_insert_other, insert_cases}
use Rattle.flat_model.proofs.Fresh.{note_raises}
use Rattle.flat_model.proofs.Steps.{step_cases, numbers_there, step_sound, after_one_sound, after_all_sound}
use Rattle.flat_model.proofs.Histories.{get_volume_of, map_there, history_front, mounted_sound}
use Rattle.flat_laws.specs.Advance.{HasAdvancedSub, HasAdvanced, AreAtCreation, GoesFrom, HasName, HasInode}
use Rattle.flat_laws.proofs.Changes.{Changes, outcome_changes}
use Rattle.flat_laws.proofs.Refusals.{step_refused}
use Rattle.flat_laws.proofs.Shown.{step_answer}

-- ---- numbers

noted_dir : (made : List FlatName) (numbers : RunNumbers) (dir : ℕ) → last_index_in numbers dir ≤ last_index_in (fold note_name numbers made) dir
noted_dir [] numbers dir = omega arith
noted_dir (name ∷ made) numbers dir = let rest = noted_dir made (note_name numbers name) dir in omega (arith, rest, note_raises numbers name dir)

noted_last : (made : List FlatName) (numbers : RunNumbers) → numbers.last_index ≤ (fold note_name numbers made).last_index
noted_last [] numbers = omega arith
noted_last (name ∷ made) numbers = let rest = noted_last made (note_name numbers name) in omega (arith, rest)

made_above : (made : List FlatName) (numbers : RunNumbers) → AreNextIndexes numbers made → (q : FlatName) → Contains made q → last_index_in numbers q.dir < q.index
made_above [] numbers next q c = absurd (contains_none q c)
made_above (name ∷ made) numbers next q c =
    elim (contains_cases name made q c) [
      | inl same ↦ subst (λ (n : FlatName). last_index_in numbers n.dir < n.index) same next.0.above_those_of_directory
      | inr later ↦ let rest = made_above made (note_name numbers name) next.1 q later in omega (arith, rest, note_raises numbers name q.dir)
    ]

-- ---- one operation in a subvolume

pub sub_advances : (run : RunSub) → AreCovered run → (removed : ℕ) (outcome : Outcome) → Changes run removed outcome → AreNextIndexes run.numbers outcome.made → HasAdvancedSub run outcome.next
sub_advances run covered removed outcome changes next = record {
  last_ino = changes.last_ino;
  last_index = omega (arith, noted_last outcome.made run.numbers, changes.last_index);
  dir_indexes = λ dir. omega (arith, noted_dir outcome.made run.numbers dir, ap (λ m. unwrap_or (get m dir) 1) changes.dir_indexes);
  kinds = λ ino old new there here. elim (changes.inodes ino new here) [
    | inl kept ↦ kept.2 ∙ ap at_creation (some_same kept.0 old (sym kept.1 ∙ there))
    | inr fresh ↦ let low = covered.inos ino old there in absurd (omega (arith, low, fresh.0))
  ];
  new_inos = λ ino new nowhere here. elim (changes.inodes ino new here) [ inl kept ↦ absurd (some_none kept.0 (sym kept.1 ∙ nowhere)) | inr fresh ↦ fresh.0 ];
  new_names = λ name c. elim (changes.names name c) [ inl old ↦ inl old | inr made ↦ inr (made_above outcome.made run.numbers next name made) ];
}

sub_stays : (run : RunSub) → HasAdvancedSub run run
sub_stays run = record {
  last_ino = omega arith;
  last_index = omega arith;
  dir_indexes = λ dir. omega arith;
  kinds = λ ino old new there here. ap at_creation (some_same new old (sym here ∙ there));
  new_inos = λ ino new nowhere here. absurd (some_none new (sym here ∙ nowhere));
  new_names = λ name c. inl c;
}

sub_on : (one two three : RunSub) → AreCovered one → HasAdvancedSub one two → HasAdvancedSub two three → HasAdvancedSub one three
sub_on one two three covered first second = record {
  last_ino = omega (arith, first.last_ino, second.last_ino);
  last_index = omega (arith, first.last_index, second.last_index);
  dir_indexes = λ dir. omega (arith, first.dir_indexes dir, second.dir_indexes dir);
  kinds = λ ino old new there here. elim (get two.sub.inodes ino) as (λ o. get two.sub.inodes ino ≡ o → at_creation new ≡ at_creation old) [
    | Some mid ↦ λ e. second.kinds ino mid new e here ∙ first.kinds ino old mid there e
    | None ↦ λ e. let low = covered.inos ino old there in let above = second.new_inos ino new e here in let rise = first.last_ino in absurd (omega (arith, low, above, rise))
  ] refl;
  new_inos = λ ino new nowhere here. elim (get two.sub.inodes ino) as (λ o. get two.sub.inodes ino ≡ o → one.numbers.last_ino < ino) [
    | Some mid ↦ λ e. first.new_inos ino mid nowhere e
    | None ↦ λ e. let above = second.new_inos ino new e here in let rise = first.last_ino in omega (arith, above, rise)
  ] refl;
  new_names = λ name c. elim (second.new_names name c) [
    | inl old ↦ first.new_names name old
    | inr above ↦ let rise = first.dir_indexes name.dir in inr (omega (arith, above, rise))
  ];
}

-- ---- volumes

pub stays : (run : RunVolume) → HasAdvanced run run
stays run = record { subvolumes = λ id. refl; each = λ id one two e f. subst (HasAdvancedSub one) (some_same one two (sym e ∙ f)) (sub_stays one) }

same_sub : (run : RunVolume) (id other : ℕ) (one sub : RunSub) → other ≡ id → get run id ≡ Some sub → get run other ≡ Some one → one ≡ sub
same_sub run id other one sub same there e = some_same one sub (sym e ∙ ap (get run) same ∙ there)

placed_on : (run : RunVolume) (id : ℕ) (sub next : RunSub) → get run id ≡ Some sub → HasAdvancedSub sub next → HasAdvanced run (insert run id next)
placed_on run id sub next there on = record {
  subvolumes = λ other. elim (cases_eq other id) [
    | inl same ↦ ap (λ k. is_some (get (insert run id next) k)) same ∙ ap is_some (get_insert_same run id next) ∙ sym (ap is_some (ap (get run) same ∙ there))
    | inr apart ↦ ap is_some (get_insert_other run id next other apart)
  ];
  each = λ other one two e f. elim (insert_cases run id next other two f) [
    | inl here ↦ subst (HasAdvancedSub one) (sym here.1) (subst (λ s. HasAdvancedSub s next) (sym (same_sub run id other one sub here.0 there e)) on)
    | inr old ↦ subst (HasAdvancedSub one) (some_same one two (sym e ∙ old.1)) (sub_stays one)
  ];
}

pub goes_on : (one two three : RunVolume) → IsSoundVolume one → HasAdvanced one two → HasAdvanced two three → HasAdvanced one three
goes_on one two three sound first second = record {
  subvolumes = λ id. second.subvolumes id ∙ first.subvolumes id;
  each = λ id a c e g. elim (get two id) as (λ o. get two id ≡ o → HasAdvancedSub a c) [
    | Some b ↦ λ f. sub_on a b c (sound id a e).covered (first.each id a b e f) (second.each id b c f g)
    | None ↦ λ f. absurd (true≢false (sym (ap is_some e) ∙ sym (first.subvolumes id) ∙ ap is_some f))
  ] refl;
}

pub step_advances : (run : RunVolume) → IsSoundVolume run → (op : Op) (indexes : List ℕ) → AreNextIndexes (numbers_in run (place_of op).sub.0) (step run op indexes).made → HasAdvanced run (step run op indexes).next
step_advances run sound op indexes =
    let id : ℕ = (place_of op).sub.0 in
    step_cases (λ (o : VolumeOutcome). AreNextIndexes (numbers_in run id) o.made → HasAdvanced run o.next) run op indexes (λ next. stays run) (λ next. stays run) (λ sub there next.
    placed_on run id sub (outcome_of sub op indexes).next there
    (sub_advances sub (sound id sub there).covered (removed_from sub.sub op) (outcome_of sub op indexes) (outcome_changes sub op indexes) (subst (λ numbers. AreNextIndexes numbers (outcome_of sub op indexes).made) (numbers_there run id sub there) next)))

-- a new inode is as it is made
stays_created : (run : RunVolume) → AreAtCreation run run
stays_created run id ino one two new e f nowhere here = absurd (some_none new (sym here ∙ ap (λ (s : RunSub). get s.sub.inodes ino) (some_same two one (sym f ∙ e)) ∙ nowhere))

pub step_creates : (run : RunVolume) (op : Op) (indexes : List ℕ) → AreAtCreation run (step run op indexes).next
step_creates run op indexes =
    let place : ℕ = (place_of op).sub.0 in
    step_cases (λ (o : VolumeOutcome). AreAtCreation run o.next) run op indexes (stays_created run) (stays_created run) (λ sub there id ino one two new e f nowhere here.
    let outcome : Outcome = outcome_of sub op indexes in
    elim (insert_cases run place outcome.next id two f) [
      | inl at ↦ elim ((outcome_changes sub op indexes).inodes ino new (sym (ap (λ (s : RunSub). get s.sub.inodes ino) at.1) ∙ here)) [
        | inl kept ↦ absurd (some_none kept.0 (sym kept.1 ∙ ap (λ (s : RunSub). get s.sub.inodes ino) (sym (same_sub run place id one sub at.0 there e)) ∙ nowhere))
        | inr fresh ↦ fresh.1
      ]
      | inr old ↦ stays_created run id ino one two new e old.1 nowhere here
    ])

-- ---- inodes that go

-- what is removed is counted, where the operation isn't refused
abbrev CountsGone : RunVolume → Op → VolumeOutcome → Type 0
CountsGone run op o =
    (id ino : ℕ) (one two : RunSub) (inode : InodeRecord) → get run id ≡ Some one → get o.next id ≡ Some two → get one.sub.inodes ino ≡ Some inode → get two.sub.inodes ino ≡ None
    → elim (get run (place_of op).sub.0) [ None ↦ 0 | Some sub ↦ removed_from sub.sub op ] ≡ blocks_and_items inode

gone_nowhere : (run : RunVolume) (id ino : ℕ) (one two : RunSub) (inode : InodeRecord) → get run id ≡ Some one → get run id ≡ Some two → get one.sub.inodes ino ≡ Some inode → get two.sub.inodes ino ≡ None → ⊥
gone_nowhere run id ino one two inode e f there gone = some_none inode (sym there ∙ ap (λ (s : RunSub). get s.sub.inodes ino) (some_same one two (sym e ∙ f)) ∙ gone)

step_counts : (run : RunVolume) (op : Op) (indexes : List ℕ) → CountsGone run op (step run op indexes)
step_counts run op indexes =
    let place : ℕ = (place_of op).sub.0 in
    step_cases (CountsGone run op) run op indexes (λ id ino one two inode e f there gone. absurd (gone_nowhere run id ino one two inode e f there gone)) (λ id ino one two inode e f there gone. absurd (gone_nowhere run id ino one two inode e f there gone))
    (λ sub found id ino one two inode e f there gone.
    let outcome : Outcome = outcome_of sub op indexes in
    elim (insert_cases run place outcome.next id two f) [
      | inl at ↦
          ap (λ o. elim o [ None ↦ 0 | Some s ↦ removed_from s.sub op ]) found
          ∙ (outcome_changes sub op indexes).gone ino inode (sym (ap (λ (s : RunSub). get s.sub.inodes ino) (same_sub run place id one sub at.0 found e)) ∙ there) (sym (ap (λ (s : RunSub). get s.sub.inodes ino) at.1) ∙ gone)
      | inr old ↦ absurd (gone_nowhere run id ino one two inode e old.1 there gone)
    ])

pub need_counted : (run : RunVolume) → IsSoundVolume run → (op : Op) (indexes : List ℕ) (id ino : ℕ) (inode : InodeRecord) → GoesFrom run (step run op indexes).next id ino inode → (removed_by run op ≡ blocks_and_items inode) × (need run op ≡ least_need op + 2 * blocks_and_items inode)
unfolding removed_by need
need_counted run sound op indexes id ino inode goes =
    let counted : ℕ = elim (get run (place_of op).sub.0) [ None ↦ 0 | Some sub ↦ removed_from sub.sub op ] in
    elim (is_refusal (step run op indexes).answer) as (λ b. is_refusal (step run op indexes).answer ≡ b → (removed_by run op ≡ blocks_and_items inode) × (need run op ≡ least_need op + 2 * blocks_and_items inode)) [
      | true ↦ λ refused. absurd (gone_nowhere run id ino goes.one goes.two inode goes.here (ap (λ (v : RunVolume). get v id) (sym (step_refused run op indexes refused).0) ∙ goes.behind) goes.there goes.gone)
      | false ↦ λ passed.
          let open_way = ap is_refusal (step_answer run op [] indexes sound) ∙ passed in
          let is : removed_by run op ≡ blocks_and_items inode = ap (λ b. cond b 0 counted) open_way ∙ step_counts run op indexes id ino goes.one goes.two inode goes.here goes.behind goes.there goes.gone in
          (is, ap (λ b. cond b 0 (least_need op + 2 * removed_by run op)) open_way ∙ ap (λ n. least_need op + 2 * n) is)
    ] refl

-- ---- histories

one_advances : (run : RunVolume) → IsSoundVolume run → (operated : Operated) → MayCome run operated → HasAdvanced run (after_one run operated)
one_advances run sound operated may =
    elim operated.short as (λ b. cond b (operated.indexes ≡ 0 ∷ 0 ∷ []) (IsChoice run operated.op operated.indexes) → HasAdvanced run (cond b run (step run operated.op operated.indexes).next)) [
      | true ↦ λ _. stays run
      | false ↦ λ choice. step_advances run sound operated.op operated.indexes choice.next
    ] may.choice

pub all_advance : (run : RunVolume) → IsSoundVolume run → (history : List Operated) → IsHistory run history → HasAdvanced run (after_all run history)
all_advance run sound [] legal = stays run
all_advance run sound (operated ∷ history) legal =
    goes_on run (after_one run operated) (after_all (after_one run operated) history) sound (one_advances run sound operated legal.0) (all_advance (after_one run operated) (after_one_sound run sound operated legal.0) history legal.1)

pub between : (run : RunVolume) → IsSoundVolume run → (history : List Operated) → IsHistory run history → (early late : ℕ) → early ≤ late → HasAdvanced (after_all run (take early history)) (after_all run (take late history))
between run sound history legal zero late le = all_advance run sound (take late history) (history_front run history late legal)
between run sound [] legal (suc early) zero le = absurd (omega (arith, le))
between run sound [] legal (suc early) (suc late) le = stays run
between run sound (operated ∷ history) legal (suc early) zero le = absurd (omega (arith, le))
between run sound (operated ∷ history) legal (suc early) (suc late) le = between (after_one run operated) (after_one_sound run sound operated legal.0) history legal.1 early late (omega (arith, le))

-- ---- names and inodes at points

in_order : (p q : ℕ) → (p ≤ q) ⊎ (q ≤ p)
in_order zero q = inl (omega arith)
in_order (suc p) zero = inr (omega arith)
in_order (suc p) (suc q) = elim (in_order p q) [ inl le ↦ inl (omega (arith, le)) | inr le ↦ inr (omega (arith, le)) ]

pub run_there : (run : RunVolume) (id : ℕ) (sub : Subvolume) → get (volume_of run) id ≡ Some sub → (r : RunSub) × (get run id ≡ Some r) × (sub ≡ r.sub)
run_there run id sub e = map_there (λ (r : RunSub). r.sub) (get run id) sub (sym (get_volume_of run id) ∙ e)

name_once : (early late : RunVolume) → IsSoundVolume early → HasAdvanced early late → (id : ℕ) (one two : FlatName) → HasName (volume_of early) id one → HasName (volume_of late) id two → one.dir ≡ two.dir → one.index ≡ two.index → one ≡ two
name_once early late sound on id one two has has' same_dir same_index =
    let a = run_there early id has.sub has.there in
    let b = run_there late id has'.sub has'.there in
    let ok = sound id a.0 a.1 in
    let here = subst (λ (s : Subvolume). Contains s.names one) a.2 has.has in
    elim ((on.each id a.0 b.0 a.1 b.1).new_names two (subst (λ (s : Subvolume). Contains s.names two) b.2 has'.has)) [
      | inl old ↦ ok.coherent.no_index_twice one two here old same_dir same_index
      | inr above ↦ let low = ok.covered.indexes one here in let moved = ap (last_index_in a.0.numbers) same_dir in absurd (omega (arith, above, low, same_index, moved))
    ]

kind_once : (early late : RunVolume) → HasAdvanced early late → (id ino : ℕ) (one two : InodeRecord) → HasInode (volume_of early) id ino one → HasInode (volume_of late) id ino two → at_creation one ≡ at_creation two
kind_once early late on id ino one two has has' =
    let a = run_there early id has.sub has.there in
    let b = run_there late id has'.sub has'.there in
    sym ((on.each id a.0 b.0 a.1 b.1).kinds ino one two (sym (ap (λ (s : Subvolume). get s.inodes ino) a.2) ∙ has.has) (sym (ap (λ (s : Subvolume). get s.inodes ino) b.2) ∙ has'.has))

never_back : (early mid late : RunVolume) → IsSoundVolume early → HasAdvanced early mid → HasAdvanced mid late → (id ino : ℕ) (one two : InodeRecord) → HasInode (volume_of early) id ino one → ((gone : InodeRecord) → HasInode (volume_of mid) id ino gone → ⊥) → HasInode (volume_of late) id ino two → ⊥
never_back early mid late sound first second id ino one two has none has' =
    let a = run_there early id has.sub has.there in
    let c = run_there late id has'.sub has'.there in
    let low = (sound id a.0 a.1).covered.inos ino one (sym (ap (λ (s : Subvolume). get s.inodes ino) a.2) ∙ has.has) in
    elim (get mid id) as (λ o. get mid id ≡ o → ⊥) [
      | None ↦ λ e. true≢false (sym (ap is_some a.1) ∙ sym (first.subvolumes id) ∙ ap is_some e)
      | Some b ↦ λ e. elim (get b.sub.inodes ino) as (λ o. get b.sub.inodes ino ≡ o → ⊥) [
        | Some gone ↦ λ f. none gone (record { sub = b.sub; there = get_volume_of mid id ∙ ap (option_map (λ (r : RunSub). r.sub)) e; has = f })
        | None ↦ λ f.
            let rise = (first.each id a.0 b a.1 e).last_ino in
            let above = (second.each id b c.0 e c.1).new_inos ino two f (sym (ap (λ (s : Subvolume). get s.inodes ino) c.2) ∙ has'.has) in
            absurd (omega (arith, low, rise, above))
      ] refl
    ] refl

-- at the points of a history
module _ (volume : Volume) (history : List Operated) (coherent : IsCoherentVolume volume) (legal : IsHistory (mounted volume) history) where
  begun : IsSoundVolume (mounted volume)
  begun = mounted_sound volume coherent

  pub sound_at : (point : ℕ) → IsSoundVolume (after_all (mounted volume) (take point history))
  sound_at point = after_all_sound (mounted volume) begun (take point history) (history_front (mounted volume) history point legal)

  pub advance_at : (early late : ℕ) → early ≤ late → HasAdvanced (after_all (mounted volume) (take early history)) (after_all (mounted volume) (take late history))
  advance_at early late le = between (mounted volume) begun history legal early late le

  pub names_once : (p q id : ℕ) (one two : FlatName) → HasName (volume_at volume history p) id one → HasName (volume_at volume history q) id two → one.dir ≡ two.dir → one.index ≡ two.index → one ≡ two
  names_once p q id one two has has' same_dir same_index =
      elim (in_order p q) [
        | inl le ↦ name_once _ _ (sound_at p) (advance_at p q le) id one two has has' same_dir same_index
        | inr le ↦ sym (name_once _ _ (sound_at q) (advance_at q p le) id two one has' has (sym same_dir) (sym same_index))
      ]

  pub kinds_once : (p q id ino : ℕ) (one two : InodeRecord) → HasInode (volume_at volume history p) id ino one → HasInode (volume_at volume history q) id ino two → at_creation one ≡ at_creation two
  kinds_once p q id ino one two has has' =
      elim (in_order p q) [
        | inl le ↦ kind_once _ _ (advance_at p q le) id ino one two has has'
        | inr le ↦ sym (kind_once _ _ (advance_at q p le) id ino two one has' has)
      ]

  pub inodes_once : (p q r id ino : ℕ) (one two : InodeRecord) → p ≤ q → q ≤ r → HasInode (volume_at volume history p) id ino one → ((gone : InodeRecord) → HasInode (volume_at volume history q) id ino gone → ⊥) → HasInode (volume_at volume history r) id ino two → ⊥
  inodes_once p q r id ino one two first second has none has' = never_back _ _ _ (sound_at p) (advance_at p q first) (advance_at q r second) id ino one two has none has'
