use Rattle.std.proofs.Common.{◌≡◌, ◌∷◌, ◌∙◌, Some, sym, ap}
use Rattle.fc_map.specs.Entries.{entries}
use Rattle.fc_intervals.specs.declared.stretch.Stretch.{Stretch}
use Rattle.fc_intervals.proofs.Handed.{inside, inside_less, others, others_same, stands}
use Rattle.fc_intervals.proofs.steps.handed.take_first.Goals as goal

pub returns : goal.returns
returns g c =
    let s = entries c.args.map.now in
    let e : g.row.K.Denot × Stretch g.row.K.Denot g.row.V.Denot = (c.in_ok-start.start.now, c.in_ok-start._stretch.now) in
    let first : inside g.K.Ord.cmp c.args.from c.args.to s ≡ e ∷ c.next.new.self = sym c.range.ensures.pairs ∙ c.in_ok-start.ensures.steps in
    rw (c.remove_entry.ensures.pair ∙ stands g.K.Ord.cmp g.met.K.Ord.total c.args.from c.args.to s c.next.new.self e first) (record {
      taken = first ∙ ap (λ l. e ∷ l) (sym (ap (inside g.K.Ord.cmp c.args.from c.args.to) c.remove_entry.ensures.rest
          ∙ inside_less g.K.Ord.cmp g.met.K.Ord.total c.args.from c.args.to s c.next.new.self e first c.range.ensures.ascending));
      none = tt;
      rest = ap (others g.K.Ord.cmp c.args.from c.args.to) c.remove_entry.ensures.rest
          ∙ others_same g.K.Ord.cmp g.met.K.Ord.total c.args.from c.args.to s c.next.new.self e first c.range.ensures.ascending;
      unchanged = tt;
    })
