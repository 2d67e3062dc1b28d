use Rattle.std.proofs.Common.{ap, sym, ◌∙◌, Ok}
use Rattle.std.proofs.lemmas.Bool.{lt-ltb, le-ltb}
use Rattle.blk_base.specs.Superblock.{super_of, is_size}
use Rattle.format_laws.specs.Checks.{passes, fails, finds, finds_none}
use Rattle.volume_format.proofs.Read.{allowed, high, log_wrong}
use Rattle.volume_format.proofs.superblock.Super.decode.Goals as goal

pub returns-then-not-has_magic : goal.returns-then-not-has_magic
unfolding super_of
returns-then-not-has_magic c = sym (fails _ _ _ (sym c.has_magic.ensures ∙ c.if-not-has_magic.true))

pub returns-then-has_wrong_sum : goal.returns-then-has_wrong_sum
unfolding super_of
returns-then-has_wrong_sum c =
    let magic = passes _ _ _ (sym c.has_magic.ensures ∙ c.if-not-has_magic.false) in
    sym (magic ∙ finds _ _ _ (sym c.has_wrong_sum.ensures ∙ c.if-has_wrong_sum.true))

pub returns-then-not-is_profile : goal.returns-then-not-is_profile
unfolding super_of
returns-then-not-is_profile c =
    sym (passes _ _ _ (sym c.has_magic.ensures ∙ c.if-not-has_magic.false)
    ∙ finds_none _ _ _ (sym c.has_wrong_sum.ensures ∙ c.if-has_wrong_sum.false)
    ∙ fails _ _ _ (sym c.is_profile.ensures ∙ c.if-not-is_profile.true))

pub returns-then-not-is_size : goal.returns-then-not-is_size
unfolding super_of
returns-then-not-is_size c =
    let total = ap (λ n. is_size n c.args.disk_blocks) c.u64_at-total.ensures in
    sym (passes _ _ _ (sym c.has_magic.ensures ∙ c.if-not-has_magic.false)
    ∙ finds_none _ _ _ (sym c.has_wrong_sum.ensures ∙ c.if-has_wrong_sum.false)
    ∙ passes _ _ _ (sym c.is_profile.ensures ∙ c.if-not-is_profile.false)
    ∙ fails _ _ _ (sym total ∙ sym c.is_size.ensures ∙ c.if-not-is_size.true))

pub returns-then-not-is_allowed : goal.returns-then-not-is_allowed
unfolding super_of
returns-then-not-is_allowed c =
    let total = ap (λ n. is_size n c.args.disk_blocks) c.u64_at-total.ensures in
    let root = ap allowed c.said-found.ensures in
    sym (passes _ _ _ (sym c.has_magic.ensures ∙ c.if-not-has_magic.false)
    ∙ finds_none _ _ _ (sym c.has_wrong_sum.ensures ∙ c.if-has_wrong_sum.false)
    ∙ passes _ _ _ (sym c.is_profile.ensures ∙ c.if-not-is_profile.false)
    ∙ passes _ _ _ (sym total ∙ sym c.is_size.ensures ∙ c.if-not-is_size.false)
    ∙ fails _ _ _ (sym root ∙ sym c.is_allowed.ensures.test ∙ c.if-not-is_allowed.true))

pub returns-then-found-gt-MAX_LEVEL : goal.returns-then-found-gt-MAX_LEVEL
unfolding super_of
returns-then-found-gt-MAX_LEVEL c =
    let total = ap (λ n. is_size n c.args.disk_blocks) c.u64_at-total.ensures in
    let root = ap allowed c.said-found.ensures in
    let level = ap high c.said-found.ensures in
    sym (passes _ _ _ (sym c.has_magic.ensures ∙ c.if-not-has_magic.false)
    ∙ finds_none _ _ _ (sym c.has_wrong_sum.ensures ∙ c.if-has_wrong_sum.false)
    ∙ passes _ _ _ (sym c.is_profile.ensures ∙ c.if-not-is_profile.false)
    ∙ passes _ _ _ (sym total ∙ sym c.is_size.ensures ∙ c.if-not-is_size.false)
    ∙ passes _ _ _ (sym root ∙ sym c.is_allowed.ensures.test ∙ c.if-not-is_allowed.false)
    ∙ finds _ _ _ (sym level ∙ lt-ltb _ _ c.if-found-gt-MAX_LEVEL.true))

pub returns-then-is_log_level_wrong : goal.returns-then-is_log_level_wrong
unfolding super_of
returns-then-is_log_level_wrong c =
    let total = ap (λ n. is_size n c.args.disk_blocks) c.u64_at-total.ensures in
    let root = ap allowed c.said-found.ensures in
    let level = ap high c.said-found.ensures in
    let log = ap log_wrong c.said-found.ensures in
    sym (passes _ _ _ (sym c.has_magic.ensures ∙ c.if-not-has_magic.false)
    ∙ finds_none _ _ _ (sym c.has_wrong_sum.ensures ∙ c.if-has_wrong_sum.false)
    ∙ passes _ _ _ (sym c.is_profile.ensures ∙ c.if-not-is_profile.false)
    ∙ passes _ _ _ (sym total ∙ sym c.is_size.ensures ∙ c.if-not-is_size.false)
    ∙ passes _ _ _ (sym root ∙ sym c.is_allowed.ensures.test ∙ c.if-not-is_allowed.false)
    ∙ finds_none _ _ _ (sym level ∙ le-ltb _ _ c.if-found-gt-MAX_LEVEL.false)
    ∙ finds _ _ _ (sym log ∙ sym c.is_log_level_wrong.ensures ∙ c.if-is_log_level_wrong.true))

pub returns : goal.returns
unfolding super_of
returns c =
    let total = ap (λ n. is_size n c.args.disk_blocks) c.u64_at-total.ensures in
    let root = ap allowed c.said-found.ensures in
    let level = ap high c.said-found.ensures in
    let log = ap log_wrong c.said-found.ensures in
    ap Ok c.said-found.ensures
    ∙ sym (passes _ _ _ (sym c.has_magic.ensures ∙ c.if-not-has_magic.false)
    ∙ finds_none _ _ _ (sym c.has_wrong_sum.ensures ∙ c.if-has_wrong_sum.false)
    ∙ passes _ _ _ (sym c.is_profile.ensures ∙ c.if-not-is_profile.false)
    ∙ passes _ _ _ (sym total ∙ sym c.is_size.ensures ∙ c.if-not-is_size.false)
    ∙ passes _ _ _ (sym root ∙ sym c.is_allowed.ensures.test ∙ c.if-not-is_allowed.false)
    ∙ finds_none _ _ _ (sym level ∙ le-ltb _ _ c.if-found-gt-MAX_LEVEL.false)
    ∙ finds_none _ _ _ (sym log ∙ sym c.is_log_level_wrong.ensures ∙ c.if-is_log_level_wrong.false))
