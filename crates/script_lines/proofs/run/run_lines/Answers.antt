use Rattle.std.proofs.Common.{◌≡◌, ◌++◌, ◌∷◌, ℕ, List, length, Result, append_assoc, length-append, [], ap, refl, subst, sym, ◌∙◌, arith}
use Rattle.io_edge.specs.Edge.{Takes, TakesFront}
use Rattle.flat_model.specs.declared.request.Line.{Line}
use Rattle.script_answer.specs.Words.{done_line}
use Rattle.script_lines.specs.declared.fault.RunFault.{RunFault}
use Rattle.script_lines.specs.declared.fault.RunFault.TheVariants as faults
use Rattle.script_lines.specs.Lines.{HasRun}
use Rattle.script_lines.proofs.Running.{AreDone, all_done, done_more, done_none, ends_at_end, ends_in_line, ends_well, err_is, tells_on, tells_same}
use Rattle.script_lines.proofs.run.run_lines.Goals as goal

pub loop-line-init : goal.loop-line-init
loop-line-init g c = record {
  split = sym c.into_iter-line-iterator.ensures.into_iter_gives.0;
  done = λ mounted at between disk. (at, done_none mounted at (g.K.Sink.taken c.args.to.now), between, disk);
  seals = omega arith;
  size = refl;
  counted = omega arith;
  tells = tells_same (g.D.Disk.told c.args.disk.now);
  disk_counted = omega arith;
}

pub run_line-requires-clause-between : goal.run_line-requires-clause-between
run_line-requires-clause-between g c =
    let first = c.requires.between in
    let done = c.loop-line.invariant.done first.0 first.1 first.2 first.3 in
    (first.0, done.0, done.2, done.3)

pub loop-line-preserved : goal.loop-line-preserved
loop-line-preserved g c =
    let so_far = c.loop-line.invariant in
    let rest = c.in-Some.ensures.steps.0 in
    record {
      split = so_far.split ∙ ap (λ (ls : List Line). c.loop-line.yielded ++ ls) rest ∙ sym (append_assoc c.loop-line.yielded (c.in-Some.line ∷ []) c.next.new.self.rest.items);
      done = λ mounted at between disk.
          let done = so_far.done mounted at between disk in
          let it = c.in_ok-run_line.ensures.ran mounted done.0 done.2 done.3 in
          (it.0, done_more mounted at c.loop-line.yielded (g.K.Sink.taken c.args.to.now) (g.K.Sink.taken c.loop-line.to) (g.K.Sink.taken c.run_line.new.to) done.0 it.0 c.in-Some.line done.1 it.1, it.4, it.3);
      seals = (let early = so_far.seals in let late = c.run_line.ensures.seals in let more = length-append c.loop-line.yielded (c.in-Some.line ∷ []) in omega (arith, early, late, more));
      size = c.run_line.ensures.size ∙ so_far.size;
      counted = (let early = so_far.counted in let late = c.run_line.ensures.counted in omega (arith, early, late));
      tells = tells_on (g.D.Disk.told c.args.disk.now) (g.D.Disk.told c.loop-line.disk) (g.D.Disk.told c.run_line.new.disk) so_far.tells c.run_line.ensures.tells;
      disk_counted = (let early = so_far.disk_counted in let late = c.run_line.ensures.disk_counted in omega (arith, early, late));
    }

pub returns-in_err-run_line-clause-ran : goal.returns-in_err-run_line-clause-ran
returns-in_err-run_line-clause-ran g c = λ mounted at between disk.
    let so_far = c.loop-line.invariant in
    let done = so_far.done mounted at between disk in
    let it = c.in_err-run_line.ensures.ran mounted done.0 done.2 done.3 in
    let split = so_far.split ∙ ap (λ (ls : List Line). c.loop-line.yielded ++ ls) c.in-Some.ensures.steps.0 in
    let ended = ends_in_line mounted at c.args.lines.items c.loop-line.yielded c.next.new.self.rest.items (g.K.Sink.taken c.args.to.now) (g.K.Sink.taken c.loop-line.to) (g.K.Sink.taken c.run_line.new.to) done.0 it.0 c.in-Some.line _ split done.1 it.1 in
    (it.0, subst (λ (r : Result (Unit {0}) RunFault). HasRun mounted c.args.lines.items at it.0 (g.K.Sink.taken c.args.to.now) (g.K.Sink.taken c.run_line.new.to) r) (sym (err_is c.from_residual.result _ c.from_residual.ensures.1)) ended, it.2, it.3)

pub returns-in_err-put_done-clause-ran : goal.returns-in_err-put_done-clause-ran
returns-in_err-put_done-clause-ran g c = λ mounted at between disk.
    let so_far = c.loop-line.invariant in
    let done = so_far.done mounted at between disk in
    let count_is : c.len-count.result ≡ length c.args.lines.items = c.len-count.ensures ∙ c.args.lines.ok.0 in
    let all = all_done c.args.lines.items c.loop-line.yielded c.loop-line.line-iterator.rest.items so_far.split (sym c.loop-line.line-iterator.rest.ok.0 ∙ c.in-None.ensures.steps.0) in
    let over = subst (λ (ls : List Line). AreDone mounted at ls (g.K.Sink.taken c.args.to.now) (g.K.Sink.taken c.loop-line.to) done.0) all done.1 in (
      done.0,
      subst (λ (r : Result (Unit {0}) RunFault). HasRun mounted c.args.lines.items at done.0 (g.K.Sink.taken c.args.to.now) (g.K.Sink.taken c.put_done.new.to) r) (sym (err_is c.from_residual-in_err-put_done.result faults.Sink c.from_residual-in_err-put_done.ensures.1))
          (ends_at_end mounted at c.args.lines.items (g.K.Sink.taken c.args.to.now) (g.K.Sink.taken c.loop-line.to) (g.K.Sink.taken c.put_done.new.to) done.0 over (subst (λ (n : ℕ). TakesFront (g.K.Sink.taken c.loop-line.to) (done_line n) (g.K.Sink.taken c.put_done.new.to)) count_is c.in_err-put_done.ensures.front)),
      done.2.has,
      done.3,
    )

pub returns-clause-ran : goal.returns-clause-ran
returns-clause-ran g c = λ mounted at between disk.
    let so_far = c.loop-line.invariant in
    let done = so_far.done mounted at between disk in
    let count_is : c.len-count.result ≡ length c.args.lines.items = c.len-count.ensures ∙ c.args.lines.ok.0 in
    let all = all_done c.args.lines.items c.loop-line.yielded c.loop-line.line-iterator.rest.items so_far.split (sym c.loop-line.line-iterator.rest.ok.0 ∙ c.in-None.ensures.steps.0) in
    let over = subst (λ (ls : List Line). AreDone mounted at ls (g.K.Sink.taken c.args.to.now) (g.K.Sink.taken c.loop-line.to) done.0) all done.1 in
    (done.0, ends_well mounted at c.args.lines.items (g.K.Sink.taken c.args.to.now) (g.K.Sink.taken c.loop-line.to) (g.K.Sink.taken c.put_done.new.to) done.0 over (subst (λ (n : ℕ). Takes (g.K.Sink.taken c.loop-line.to) (done_line n) (g.K.Sink.taken c.put_done.new.to)) count_is c.in_ok-put_done.ensures.whole), done.2.has, done.3)
