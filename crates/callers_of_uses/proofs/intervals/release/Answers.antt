use Rattle.std.proofs.lemmas.Result.{on_ok_weaker}
use Rattle.fc_intervals.proofs.Laws.{no_number_after_cut}
use Rattle.callers_of_uses.proofs.intervals.release.Goals as goal

pub returns-clause-still_free : goal.returns-clause-still_free
returns-clause-still_free c =
    on_ok_weaker c.try_cut.result (no_number_after_cut _ c.args.from c.args.to c.args.nights.now c.try_cut.new.self) c.try_cut.ensures.written
