use Rattle.std.proofs.Common.{◌≡◌, [], ◌++◌, arith, append-nil}
use Rattle.std.proofs.KnownBytes.{Appends-kept, Appends-nil}
use Rattle.std.proofs.lemmas.List.{nil_from_length}
use Rattle.std.proofs.lemmas.Result.{err_from_is_err_and}
use Rattle.std.proofs.lemmas.Bool.Decides.{nat_tests}
use Rattle.fc_command.specs.declared.command.session.ServeEnd.TheVariants.{Finished, NotACommand}
use Rattle.fc_lines.specs.Lines.{lines_of}
use Rattle.fc_command.specs.Spoken.{SpokenIn}
use Rattle.fc_command.proofs.ServeFacts.{line_failed, faulted_here, place_end, place_none, ended_flushed, cut_spoken, cut_faulted}
use Rattle.fc_command.proofs.command.session.Session.finish.Goals as goal
use Rattle.fc_command.proofs.command.session.Session.finish.Goals.{then-not-is_empty+in_ok-n+in-None, else-not-is_empty}

pub returns-in_err-n : goal.returns-in_err-n
returns-in_err-n g c seen said s =
    let p = err_from_is_err_and c.from_residual.result c.from_residual.ensures.1 in
    let w = c.in_err-n.ensures.ran s.front said s.spoken in (
      w.0,
      w.1,
      rw (p.1, p.2) (line_failed (lines_of seen) c.args.self.now c.run_line.new.self s.front [] said w.0 c.in_err-n.field-0.0
          (place_end seen s.front _ s.cuts (grind (arith, nat_tests, c.args.self.now.line.ok.0))) s.spoken s.number w.2),
    )

pub returns-in-Some : goal.returns-in-Some
returns-in-Some g c seen said s =
    let w = rw c.in-Some.is at (c.in_ok-n.ensures.ran s.front said s.spoken) in
    let fault = faulted_here (lines_of seen) s.front [] _ said w.0 _ _ c.in-Some.n
    (place_end seen s.front _ s.cuts (grind (arith, nat_tests, c.args.self.now.line.ok.0))) s.spoken s.number w.2.0 w.2.1 w.2.2 in (
      w.0,
      Appends-kept _ _ _ w.0 w.1 c.flushed.ensures.0,
      ended_flushed g.row.A.Denot seen (said ++ w.0) (NotACommand c.in-Some.n) c.flushed.result c.flushed.ensures.1
          fault (cut_faulted g.row.A.Denot _ _ c.in-Some.n fault),
    )

pub returns : goal.returns
returns g c seen said s = elim c.if-not-is_empty.branch [
  | then-not-is_empty+in_ok-n+in-None w ↦
      let r = rw w.in-None.is at (w.in_ok-n.ensures.ran s.front said s.spoken) in
      let spoken : SpokenIn g.row.A.Denot (lines_of seen) (said ++ r.0) = (
        w.run_line.new.self.world,
        rw (place_end seen s.front _ s.cuts (grind (arith, nat_tests, c.args.self.now.line.ok.0))) r.2.0,
      ) in (
        r.0,
        Appends-kept _ _ _ r.0 (rw w.out-is r.1) c.flushed-2.ensures.0,
        ended_flushed g.row.A.Denot seen (said ++ r.0) Finished c.flushed-2.result c.flushed-2.ensures.1 spoken (cut_spoken g.row.A.Denot _ _ spoken),
      )
  | else-not-is_empty w ↦
      let none : c.args.self.now.line.items ≡ [] = nil_from_length _ (grind (arith, nat_tests, c.args.self.now.line.ok.0)) in
      let spoken : SpokenIn g.row.A.Denot (lines_of seen) (said ++ []) =
      (c.args.self.now.world, rw (place_none seen s.front _ s.cuts none, append-nil) s.spoken) in (
        [],
        Appends-kept _ _ _ [] (rw w.out-is (Appends-nil _)) c.flushed-2.ensures.0,
        ended_flushed g.row.A.Denot seen (said ++ []) Finished c.flushed-2.result c.flushed-2.ensures.1 spoken (cut_spoken g.row.A.Denot _ _ spoken),
      )
]
