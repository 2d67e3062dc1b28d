-- The items of a log, counted entry by entry, are at most the weight of the steps that wrote it.
use Rattle.std.proofs.Common.{◌≡◌, ℕ, ◌+◌, ◌-◌, ◌*◌, ◌≤◌, Bool, true, false, cond, not, ◌&&◌, List, [], ◌∷◌, ◌++◌, map, length, flat_map, Option, Some, None, refl, sym, ap, subst, ◌∙◌, arith, inl, inr, ◌⊎◌}
use Rattle.std.specs.Bool.{nat_eq}
use Rattle.std.specs.Option.{is_some}
use Rattle.std.specs.List.{Contains, filter, sum_by}
use Rattle.std.specs.FinMap.{get, keys, len}
use Rattle.std.proofs.lemmas.Bool.{true≢false, or_cases, or_left, or_right, eqb-true, ne_eqb, not-true, cases_eq}
use Rattle.std.proofs.lemmas.List.Elements.{Contains-append_left, Contains-append_right, Contains-append_cases}
use Rattle.flat_model.specs.Records.{InodeRecord, FileInode, DirInode, LinkInode, FileRecord, Blocks}
use Rattle.flat_model.specs.Names.{FlatName, leads_to, stands_in, links_of, entries_of}
use Rattle.flat_model.specs.Volume.{Subvolume, is_dir_at}
use Rattle.flat_model.proofs.Lists.{contains_head, contains_none, contains_filter, filter_contains, filter_swaps}
use Rattle.logged_volume.specs.Numbers.{is_in, number_set, gaps, is_met, gaps_with}
use Rattle.logged_volume.specs.Agreement.{is_there}
use Rattle.logged_volume.specs.FlatLog.{FileChanges, WholeInode, WholeFile, WholeDir, WholeLink, LogRange, LogEntry, FlatLog, is_logged, AreDistinct}
use Rattle.logged_volume.specs.Replay.{blocks_of}
use Rattle.logged_volume.specs.Written.{blocks_in, IsChangesOf, IsWholeOf}
use Rattle.logged_volume.specs.Standing.{IsLogOf}
use Rattle.logged_volume.specs.Weight.{MadeStep, step_members, member_weight, record_weight, target_weight, listed_weight, gone_weight, greatest, inode_weight, drawn_by, weight_of, change_count, made_count, logged_inodes, item_count}
use Rattle.logged_volume.proofs.Members.{in_gives, number_set_has, number_set_gives, is_set_number_set, key_is_in}
use Rattle.logged_volume.proofs.Gaps.{map_has}
use Rattle.logged_volume.proofs.Wholes.{key_has}
use Rattle.logged_volume.proofs.Counts.{sum_le, sum_plus, sum_within, length_within, length_by_key, keys_by_length, set_distinct, length_number_set, keys_distinct, len_keys}

-- ---- what a whole inode holds

gaps_count : (numbers : List ℕ) (low high : ℕ) → length (gaps low numbers high) ≡ length numbers + 1
gaps_count [] low high = refl
gaps_count (number ∷ numbers) low high = let rest = gaps_count numbers (number + 1) high in omega (arith, rest)

pub short_filter : {X : Type 0} (p : X → Bool) (xs : List X) → length (filter p xs) ≤ length xs
short_filter p [] = omega arith
short_filter p (x ∷ xs) =
    let rest = short_filter p xs in
    elim (p x) as (λ b. length (cond b (x ∷ filter p xs) (filter p xs)) ≤ length (x ∷ xs)) [ true ↦ omega (arith, rest) | false ↦ omega (arith, rest) ]

pub map_count : {X Y : Type 0} (f : X → Y) (xs : List X) → length (map f xs) ≡ length xs
map_count f [] = refl
map_count f (x ∷ xs) = let rest = map_count f xs in omega (arith, rest)

pub gaps_with_count : (without others : List ℕ) (high : ℕ) → length (gaps_with without others high) ≤ length without + 1
gaps_with_count without others high =
    omega (arith, short_filter (is_met others) (gaps 0 (number_set without) high), gaps_count (number_set without) 0 high, length_number_set without)

file_count : (old : Blocks) (file : FileRecord) (changes : FileChanges) → IsChangesOf old file changes → len changes.attributes + len changes.blocks + length changes.holes ≤ len file.attributes + 2 * len file.blocks + 1
file_count old file changes is =
    let blocks = length_within (keys changes.blocks) (keys file.blocks) (keys_distinct changes.blocks)
    (λ number c. let has = key_has changes.blocks number c in key_is_in file.blocks number has.0 (is.brought number has.0 has.1)) in
    let holes = ap length is.holes ∙ map_count (λ (gap : ℕ × ℕ). (gap.0, gap.1 - gap.0)) (gaps_with (keys file.blocks) (keys old) (blocks_in file.size)) in
    omega (arith, ap len is.attributes, blocks, len_keys changes.blocks, len_keys file.blocks, holes, gaps_with_count (keys file.blocks) (keys old) (blocks_in file.size))

pub whole_count : (was : Option InodeRecord) (inode : InodeRecord) (whole : WholeInode) → IsWholeOf was inode whole → change_count (Some whole) ≤ record_weight (Some inode)
whole_count was (FileInode file) (WholeFile changes) is = file_count (blocks_of was) file changes is
whole_count was (FileInode file) (WholeDir dir) is = absurd is
whole_count was (FileInode file) (WholeLink link) is = absurd is
whole_count was (DirInode dir) (WholeFile changes) is = absurd is
whole_count was (DirInode dir) (WholeDir whole) is = omega (arith, ap (λ d. len d.attributes) is)
whole_count was (DirInode dir) (WholeLink link) is = absurd is
whole_count was (LinkInode link) (WholeFile changes) is = absurd is
whole_count was (LinkInode link) (WholeDir dir) is = absurd is
whole_count was (LinkInode link) (WholeLink whole) is = omega (arith, ap (λ l. len l.attributes) is)

made_count_le : (o : Option InodeRecord) → made_count o ≤ 1
made_count_le None = omega arith
made_count_le (Some (FileInode file)) = omega arith
made_count_le (Some (DirInode dir)) = omega arith
made_count_le (Some (LinkInode link)) = omega arith

-- ---- what steps bound

-- the names that C has of inodes that R lacks
abbrev pub lost_names : Subvolume → Subvolume → List FlatName
lost_names committed logged = filter (λ name. not (is_there logged name.ino)) committed.names

abbrev pub lost_in : Subvolume → Subvolume → ℕ → ℕ
lost_in committed logged dir = length (filter (stands_in dir) (lost_names committed logged))

abbrev pub ranges_at : FlatLog → ℕ → List LogRange
ranges_at log dir = filter (λ range. nat_eq range.dir dir) log.ranges

abbrev pub entries_at : FlatLog → ℕ → List LogEntry
entries_at log dir = filter (λ entry. nat_eq entry.dir dir) log.entries

-- the steps bound what the log has, part by part
pub record AreWeighed (committed : Subvolume) (steps : List MadeStep) (logged : Subvolume) (log : FlatLog) : Type 0 where
  pub drawn : (ino : ℕ) → is_logged log ino ≡ true → Contains (drawn_by steps) ino
  pub members : (ino : ℕ) → is_logged log ino ≡ true → 2 + links_of log.names ino ≤ greatest (member_weight ino) steps
  pub changes : (ino : ℕ) → change_count (get log.whole ino) ≤ greatest (target_weight ino) steps
  pub listed : (dir : ℕ) → length (ranges_at log dir) + length (entries_at log dir) ≤ greatest (listed_weight dir) steps + lost_in committed logged dir
  pub gone : (name : FlatName) → Contains committed.names name → is_there logged name.ino ≡ false → Contains (drawn_by steps) name.ino × (links_of committed.names name.ino ≤ greatest (gone_weight committed name.ino) steps)
  pub ranges_once : AreDistinct log.ranges
  pub entries_once : AreDistinct log.entries

-- only drawn inodes were listed
listed_is_drawn : (steps : List MadeStep) (dir : ℕ) → ((step : MadeStep) → Contains steps step → is_in (step_members step) step.target ≡ true) → Contains (drawn_by steps) dir ⊎ (greatest (listed_weight dir) steps ≡ 0)
listed_is_drawn [] dir targets = inr refl
listed_is_drawn (step ∷ steps) dir targets =
    let all = step_members step ++ flat_map step_members steps in
    elim (listed_is_drawn steps dir (λ other c. targets other (Rattle.flat_model.proofs.Lists.contains_tail step steps other c))) [
      | inl c ↦ inl (number_set_has all dir (Contains-append_right (step_members step) (flat_map step_members steps) dir (number_set_gives (flat_map step_members steps) dir c)))
      | inr none ↦ elim (cases_eq dir step.target) [
        | inl same ↦ inl (number_set_has all dir (Contains-append_left (step_members step) (flat_map step_members steps) dir (in_gives _ dir (ap (is_in (step_members step)) same ∙ targets step (contains_head step steps)))))
        | inr apart ↦
            let zero_here : listed_weight dir step ≡ 0 = ap (λ b. cond (b && (is_dir_at step.current dir && not (Rattle.logged_volume.specs.Weight.had_data_form step))) (1 + length (entries_of step.current.names dir)) 0) (ne_eqb dir step.target apart) in
            inr (omega (arith, zero_here, none))
      ]
    ]

module _ (committed : Subvolume) (steps : List MadeStep) (logged : Subvolume) (log : FlatLog) (is : IsLogOf committed logged log) (are : AreWeighed committed steps logged log) (targets : (step : MadeStep) → Contains steps step → is_in (step_members step) step.target ≡ true) where
  all : List ℕ
  all = drawn_by steps

  inode_is_logged : (ino : ℕ) → Contains (logged_inodes log) ino → is_logged log ino ≡ true
  inode_is_logged ino c =
      elim (Contains-append_cases (keys log.whole) (keys log.existing) ino (number_set_gives (keys log.whole ++ keys log.existing) ino c)) [
        | inl whole ↦ let has = key_has log.whole ino whole in or_left _ _ (ap is_some has.1)
        | inr existing ↦ let has = key_has log.existing ino existing in or_right (is_some (get log.whole ino)) _ (ap is_some has.1)
      ]

  logged_is_inode : (ino : ℕ) → is_logged log ino ≡ true → Contains (logged_inodes log) ino
  logged_is_inode ino t =
      number_set_has (keys log.whole ++ keys log.existing) ino (elim (or_cases _ _ t) [
        | inl whole ↦ let has = some_given (get log.whole ino) whole in Contains-append_left (keys log.whole) (keys log.existing) ino (key_is_in log.whole ino has.0 has.1)
        | inr existing ↦ let has = some_given (get log.existing ino) existing in Contains-append_right (keys log.whole) (keys log.existing) ino (key_is_in log.existing ino has.0 has.1)
      ])
    where
      some_given : {A : Type 0} (o : Option A) → is_some o ≡ true → (x : A) × (o ≡ Some x)
      some_given None e = absurd (true≢false (sym e))
      some_given (Some x) e = (x, refl)

  own_items : ℕ → ℕ
  own_items ino = 1 + made_count (get log.existing ino) + change_count (get log.whole ino)

  own_weight : ℕ → ℕ
  own_weight ino = greatest (member_weight ino) steps + greatest (target_weight ino) steps

  -- the items of inodes, and their names
  inodes_weigh : sum_by (λ ino. 1 + made_count (get log.existing ino) + change_count (get log.whole ino)) (logged_inodes log) + length log.names ≤ sum_by (λ ino. greatest (member_weight ino) steps + greatest (target_weight ino) steps) (drawn_by steps)
  inodes_weigh =
      let items = λ (ino : ℕ). 1 + made_count (get log.existing ino) + change_count (get log.whole ino) in
      let weight = λ (ino : ℕ). greatest (member_weight ino) steps + greatest (target_weight ino) steps in
      let names = length_by_key (λ (name : FlatName). name.ino) (logged_inodes log) log.names (λ name c. logged_is_inode name.ino (is.names_are name c).1) in
      let each = sum_le (λ ino. items ino + links_of log.names ino) weight (logged_inodes log) (λ ino c.
      let t = inode_is_logged ino c in
      omega (arith, made_count_le (get log.existing ino), are.members ino t, are.changes ino)) in
      let within = sum_within weight (logged_inodes log) (drawn_by steps) (set_distinct _ (is_set_number_set (keys log.whole ++ keys log.existing))) (λ ino c. inl (are.drawn ino (inode_is_logged ino c))) in
      omega (arith, names, each, within, sum_plus items (links_of log.names) (logged_inodes log))

  lost_weigh : length (lost_names committed logged) ≤ sum_by (λ ino. greatest (gone_weight committed ino) steps) (drawn_by steps)
  lost_weigh =
      let lost = λ (name : FlatName). not (is_there logged name.ino) in
      let parts = length_by_key (λ (name : FlatName). name.ino) (drawn_by steps) (lost_names committed logged) (λ name c.
      let found = filter_contains lost committed.names name c in (are.gone name found.0 (not-true _ found.1)).0) in
      let each = sum_le (λ ino. length (filter (leads_to ino) (lost_names committed logged))) (λ ino. greatest (gone_weight committed ino) steps) (drawn_by steps) (λ ino c. lost_of ino) in
      omega (arith, parts, each)
    where
      lost_of : (ino : ℕ) → length (filter (leads_to ino) (lost_names committed logged)) ≤ greatest (gone_weight committed ino) steps
      lost_of ino =
          elim (filter (leads_to ino) (lost_names committed logged)) as (λ l. filter (leads_to ino) (lost_names committed logged) ≡ l → length (filter (leads_to ino) (lost_names committed logged)) ≤ greatest (gone_weight committed ino) steps) [
            | [] ↦ λ none. omega (arith, ap length none)
            | name ∷ rest ↦ λ some.
                let member = filter_contains (leads_to ino) (lost_names committed logged) name (subst (λ l. Contains l name) (sym some) (contains_head name rest)) in
                let lost = filter_contains (λ (name : FlatName). not (is_there logged name.ino)) committed.names name member.0 in
                let is_ino : name.ino ≡ ino = eqb-true name.ino ino member.1 in
                let weight = (are.gone name lost.0 (not-true _ lost.1)).1 in
                let bound : links_of committed.names ino ≤ greatest (gone_weight committed ino) steps = subst (λ i. links_of committed.names i ≤ greatest (gone_weight committed i) steps) is_ino weight in
                omega (arith, bound, ap length (filter_swaps (leads_to ino) (λ (name : FlatName). not (is_there logged name.ino)) committed.names), short_filter (λ (name : FlatName). not (is_there logged name.ino)) (filter (leads_to ino) committed.names))
          ] refl

  -- the ranges and entries
  ranges_weigh : length log.ranges + length log.entries ≤ sum_by (λ ino. greatest (listed_weight ino) steps) (drawn_by steps) + length (lost_names committed logged)
  ranges_weigh =
      let given = map (λ (range : LogRange). range.dir) log.ranges ++ map (λ (entry : LogEntry). entry.dir) log.entries in
      let dirs = number_set given in
      let once = set_distinct dirs (is_set_number_set given) in
      let ranges = length_by_key (λ (range : LogRange). range.dir) dirs log.ranges (λ range c. number_set_has given range.dir (Contains-append_left _ _ range.dir (map_has (λ (range : LogRange). range.dir) log.ranges range c))) in
      let entries = length_by_key (λ (entry : LogEntry). entry.dir) dirs log.entries (λ entry c. number_set_has given entry.dir (Contains-append_right (map (λ (range : LogRange). range.dir) log.ranges) _ entry.dir (map_has (λ (entry : LogEntry). entry.dir) log.entries entry c))) in
      let each = sum_le (λ dir. length (ranges_at log dir) + length (entries_at log dir)) (λ dir. greatest (listed_weight dir) steps + lost_in committed logged dir) dirs (λ dir c. are.listed dir) in
      let lost = keys_by_length (λ (name : FlatName). name.dir) dirs (lost_names committed logged) once in
      let listed = sum_within (λ dir. greatest (listed_weight dir) steps) dirs (drawn_by steps) once (λ dir c. listed_is_drawn steps dir targets) in
      omega (arith, ranges, entries, each, lost, listed, sum_plus (λ dir. length (ranges_at log dir)) (λ dir. length (entries_at log dir)) dirs, sum_plus (λ dir. greatest (listed_weight dir) steps) (lost_in committed logged) dirs)

  pub items_weigh : item_count log ≤ weight_of committed steps
  unfolding item_count
  items_weigh =
      let one = sum_plus (λ ino. greatest (member_weight ino) steps + greatest (target_weight ino) steps) (λ ino. greatest (listed_weight ino) steps) (drawn_by steps) in
      let two = sum_plus (λ ino. greatest (member_weight ino) steps + greatest (target_weight ino) steps + greatest (listed_weight ino) steps) (λ ino. greatest (gone_weight committed ino) steps) (drawn_by steps) in
      omega (arith, inodes_weigh, lost_weigh, ranges_weigh, one, two)
