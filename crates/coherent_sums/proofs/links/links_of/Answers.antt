use Rattle.std.proofs.Common.{[], false, ap, ◌∙◌}
use Rattle.std.specs.BTreeMap.{get}
use Rattle.std.specs.Option.{unwrap_or}
use Rattle.std.specs.Ordering.{nat_cmp}
use Rattle.coherent_names.specs.declared.name.Name.{Name}
use Rattle.coherent_sums.proofs.Counting.{counted}
use Rattle.coherent_sums.proofs.links.links_of.Goals as goal

-- the name that a read beyond a list's end would give
unfoldable no_name : Name
no_name = record { found = record { ino = record { 0 = 0 }; dir = record { 0 = 0 }; index = 0; name = record { ref_ptr = (0, 0); now = [] } }; near = false }

pub loop-name-preserved : goal.loop-name-preserved
unfolding no_name
loop-name-preserved c = λ ino.
    counted c.args.names.now c.loop-name.name-index no_name (get nat_cmp c.loop-name.counts) (get nat_cmp c.insert.new.self) c.unwrap_or-count.result ino c.loop-name-test.true
    (c.unwrap_or-count.ensures ∙ ap (λ o. unwrap_or o 0) (c.copied.ensures ∙ c.get.ensures.value)) (c.in_ok-insert.ensures.updates.0 ino) c.loop-name.invariant
