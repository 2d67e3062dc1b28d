-- The three words of `mkfs` and what they say.
use Rattle.std.proofs.Common.{◌≡◌, ◌≤◌, ◌<◌, ◌↔◌, ◌∷◌, [], ℕ, Bool, IsTrue, nat_eq, List, String, length, drop, codes, string_bytes, slice_index_or, Option, Some, None, IfSome, ap, sym, ◌∙◌, subst, arith}
use Rattle.std.specs.Cmp.Lexicographic.{bytes_decides, pointwise}
use Rattle.disk_model.specs.Disk.{IfTold}
use Rattle.script_runner.specs.Words.{IsNumber}
use Rattle.script_runner.specs.Commands.{AreInRange, AsksForBlocks, IsMkfs, IsOutOfRange, bytes_of}

-- a word is one number
number_once : (word : List ℕ) (one other : ℕ) → IsNumber word one → IsNumber word other → one ≡ other
number_once word one other is_one is_other = sym is_one.spells ∙ is_other.spells

pub too_many_blocks : (fsid blocks word subs : List ℕ) (disk_blocks : ℕ) → word ≡ blocks → ((value : ℕ) → IsNumber word value → 65536 < value) → AreInRange disk_blocks fsid blocks subs → ⊥
too_many_blocks fsid blocks word subs disk_blocks same above range =
    let value = range.block_count in
    let most = range.may_be_made.most in
    omega (arith, above value (subst (λ (text : List ℕ). IsNumber text value) (sym same) range.blocks_are))

pub too_many_subvolumes : (fsid blocks subs word : List ℕ) (disk_blocks : ℕ) → word ≡ subs → ((value : ℕ) → IsNumber word value → 16 < value) → AreInRange disk_blocks fsid blocks subs → ⊥
too_many_subvolumes fsid blocks subs word disk_blocks same above range =
    let value = range.subvolume_count in
    let few = range.may_be_made.few in
    omega (arith, few, above value (subst (λ (text : List ℕ). IsNumber text value) (sym same) range.subvolumes_are))

-- what follows of what is told holds of it
pub if_told_weaker : {A : Type 0} (told : Option A) (P Q : A → Type 0) → ((value : A) → P value → Q value) → IfTold told P → IfTold told Q
if_told_weaker None P Q weaker holds = tt
if_told_weaker (Some value) P Q weaker holds = weaker value holds

-- what follows of two facts that are told holds of it
pub if_told_both : {A : Type 0} (told : Option A) (P Q R : A → Type 0) → ((value : A) → P value → Q value → R value) → IfTold told P → IfTold told Q → IfTold told R
if_told_both None P Q R weaker one two = tt
if_told_both (Some value) P Q R weaker one two = weaker value one two

-- the words of a list of four
four_words : {A : Type 0} (words : List A) (one two three four : A) → 4 ≤ length words → length words < 5 → one ≡ slice_index_or words 0 one → two ≡ slice_index_or words 1 two → three ≡ slice_index_or words 2 three → four ≡ slice_index_or words 3 four
    → words ≡ one ∷ two ∷ three ∷ four ∷ []
four_words [] one two three four least most first second third fourth = absurd (omega (arith, least))
four_words (a ∷ []) one two three four least most first second third fourth = absurd (omega (arith, least))
four_words (a ∷ b ∷ []) one two three four least most first second third fourth = absurd (omega (arith, least))
four_words (a ∷ b ∷ c ∷ []) one two three four least most first second third fourth = absurd (omega (arith, least))
four_words (a ∷ b ∷ c ∷ d ∷ []) one two three four least most first second third fourth = cc
four_words (a ∷ b ∷ c ∷ d ∷ e ∷ words) one two three four least most first second third fourth = absurd (omega (arith, most))

-- the word of a list of one
pub one_word : {A : Type 0} (words : List (String A)) (command : String A) (text : List ℕ) → 1 ≤ length words → length words < 2 → command ≡ slice_index_or words 0 command → text ≡ string_bytes command
    → bytes_of words ≡ text ∷ []
one_word [] command text least most first is = absurd (omega (arith, least))
one_word (a ∷ []) command text least most first is = ap (λ (it : List ℕ). it ∷ []) (sym (is ∙ ap string_bytes first))
one_word (a ∷ b ∷ words) command text least most first is = absurd (omega (arith, most))

-- whether the one word is this
pub is_word : (words : List (List ℕ)) (text word : List ℕ) (test : Bool) → words ≡ text ∷ [] → test ≡ pointwise nat_eq text word → IsTrue test ↔ (words ≡ word ∷ [])
is_word words text word test one is = (
  λ pass. one ∙ ap (λ (it : List ℕ). it ∷ []) ((bytes_decides text word).0 (sym is ∙ pass)),
  λ same. is ∙ (bytes_decides text word).1 (ap (λ (all : List (List ℕ)). slice_index_or all 0 []) (sym one ∙ same)),
)

-- the words are `mkfs` and these three
pub is_mkfs : {A : Type 0} (words : List (String A)) (command fsid blocks subs : String A) (command_text fsid_text blocks_text subs_text : List ℕ) → 4 ≤ length words → length words < 5
    → command ≡ slice_index_or words 0 command → fsid ≡ slice_index_or words 1 fsid → blocks ≡ slice_index_or words 2 blocks → subs ≡ slice_index_or words 3 subs
    → command_text ≡ string_bytes command → fsid_text ≡ string_bytes fsid → blocks_text ≡ string_bytes blocks → subs_text ≡ string_bytes subs → command_text ≡ codes "mkfs"
    → IsMkfs (bytes_of words) fsid_text blocks_text subs_text
is_mkfs words command fsid blocks subs command_text fsid_text blocks_text subs_text least most first second third fourth command_is fsid_is blocks_is subs_is same =
    let all : words ≡ command ∷ fsid ∷ blocks ∷ subs ∷ [] = four_words words command fsid blocks subs least most first second third fourth in
    let texts : bytes_of words ≡ string_bytes command ∷ string_bytes fsid ∷ string_bytes blocks ∷ string_bytes subs ∷ [] = ap bytes_of all in
    let name : string_bytes command ≡ codes "mkfs" = sym command_is ∙ same in
    texts ∙ ap (λ (text : List ℕ). text ∷ string_bytes fsid ∷ string_bytes blocks ∷ string_bytes subs ∷ []) name
    ∙ ap (λ (text : List ℕ). codes "mkfs" ∷ text ∷ string_bytes blocks ∷ string_bytes subs ∷ []) (sym fsid_is)
    ∙ ap (λ (text : List ℕ). codes "mkfs" ∷ fsid_text ∷ text ∷ string_bytes subs ∷ []) (sym blocks_is)
    ∙ ap (λ (text : List ℕ). codes "mkfs" ∷ fsid_text ∷ blocks_text ∷ text ∷ []) (sym subs_is)

-- words that are out of range as they stand
pub out_of_range : (words : List (List ℕ)) (disk_blocks : ℕ) (fsid blocks subs : List ℕ) → IsMkfs words fsid blocks subs → IsOutOfRange words disk_blocks → AreInRange disk_blocks fsid blocks subs → ⊥
out_of_range words disk_blocks fsid blocks subs mkfs out range =
    let same : fsid ∷ blocks ∷ subs ∷ [] ≡ out.fsid ∷ out.blocks ∷ out.subs ∷ [] = ap (drop 1) (sym mkfs ∙ out.is_mkfs) in
    let fsid_same : fsid ≡ out.fsid = ap (λ (rest : List (List ℕ)). slice_index_or rest 0 []) same in
    let blocks_same : blocks ≡ out.blocks = ap (λ (rest : List (List ℕ)). slice_index_or rest 1 []) same in
    let subs_same : subs ≡ out.subs = ap (λ (rest : List (List ℕ)). slice_index_or rest 2 []) same in
    out.out_of_range (subst (λ (text : List ℕ). AreInRange disk_blocks out.fsid out.blocks text) subs_same (subst (λ (text : List ℕ). AreInRange disk_blocks out.fsid text subs) blocks_same (subst (λ (text : List ℕ). AreInRange disk_blocks text blocks subs) fsid_same range)))

-- what follows of a value holds of it, where there is one
pub if_some_weaker : {A : Type 0} (value : Option A) (P Q : A → Type 0) → ((it : A) → P it → Q it) → IfSome value P → IfSome value Q
if_some_weaker None P Q weaker holds = tt
if_some_weaker (Some it) P Q weaker holds = weaker it holds

-- the words are `mkfs` and three more, of which the second is this number
pub asks_for_blocks : {A : Type 0} (words : List (String A)) (command blocks : String A) (command_text blocks_text : List ℕ) (count : ℕ) → 4 ≤ length words → length words < 5
    → command ≡ slice_index_or words 0 command → blocks ≡ slice_index_or words 2 blocks → command_text ≡ string_bytes command → blocks_text ≡ string_bytes blocks → command_text ≡ codes "mkfs"
    → IsNumber blocks_text count × (4096 ≤ count) × (count ≤ 65536) → AsksForBlocks (bytes_of words) count
asks_for_blocks [] command blocks command_text blocks_text count least most first third command_is blocks_is same number = absurd (omega (arith, least))
asks_for_blocks (a ∷ []) command blocks command_text blocks_text count least most first third command_is blocks_is same number = absurd (omega (arith, least))
asks_for_blocks (a ∷ b ∷ []) command blocks command_text blocks_text count least most first third command_is blocks_is same number = absurd (omega (arith, least))
asks_for_blocks (a ∷ b ∷ c ∷ []) command blocks command_text blocks_text count least most first third command_is blocks_is same number = absurd (omega (arith, least))
asks_for_blocks (a ∷ b ∷ c ∷ d ∷ []) command blocks command_text blocks_text count least most first third command_is blocks_is same number = record {
  fsid = string_bytes b;
  blocks = string_bytes c;
  subs = string_bytes d;
  is_mkfs = ap (λ (text : List ℕ). text ∷ string_bytes b ∷ string_bytes c ∷ string_bytes d ∷ []) (ap string_bytes (sym first) ∙ sym command_is ∙ same);
  blocks_are = subst (λ (text : List ℕ). IsNumber text count) (blocks_is ∙ ap string_bytes third) number.0;
  least = number.1;
  most = number.2;
}
asks_for_blocks (a ∷ b ∷ c ∷ d ∷ e ∷ words) command blocks command_text blocks_text count least most first third command_is blocks_is same number = absurd (omega (arith, most))
