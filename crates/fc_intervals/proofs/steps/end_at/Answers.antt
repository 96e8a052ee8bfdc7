use Rattle.std.proofs.Common.{rules, ◌≡◌, ◌∙◌, ◌++◌, ◌∷◌, true, false, sym, ap}
use Rattle.std.specs.Option.{option_map}
use Rattle.std.specs.Ordering.{is_lt}
use Rattle.fc_base.specs.Halves.{not_below}
use Rattle.fc_map.specs.Entries.{entries}
use Rattle.fc_intervals.specs.declared.stretch.Stretch.{Stretch}
use Rattle.fc_intervals.proofs.Lists.{one_value}
use Rattle.fc_intervals.proofs.Written.{end_none, end_kept, end_written}
use Rattle.fc_intervals.proofs.steps.end_at.Goals as goal

pub returns-then-is_lt : goal.returns-then-is_lt
returns-then-is_lt g c =
    let s = entries c.args.map.now in
    let pair = c.in-Some.ensures.pair in
    let seen : c.get.result.now ≡ pair.0.1 = one_value _ _ (sym c.get.ensures ∙ ap (option_map (λ e. e.1)) pair.2) in
    let lent : c.get_mut.result.now ≡ pair.0.1 = one_value _ _ (sym c.get_mut.ensures.value ∙ ap (option_map (λ e. e.1)) pair.2) in
    let test : is_lt (g.K.Ord.cmp c.args.at pair.0.1.end) ≡ true =
    ap (λ (x : Stretch g.row.K.Denot g.row.V.Denot). is_lt (g.K.Ord.cmp c.args.at x.end)) (sym seen) ∙ ap is_lt (sym c.cmp.ensures) ∙ sym c.is_lt.ensures
    ∙ c.if-is_lt.true in
    let written : Stretch g.row.K.Denot g.row.V.Denot = record { end = c.args.at; value = c.get_mut.result.now.value } in
    record {
      ended = ◌∙◌ {b = entries c.drop-entry.new.self.0} (search rules) (ap entries c.drop-entry.ensures ∙ pair.5 written
          ∙ ap (λ (x : Stretch g.row.K.Denot g.row.V.Denot). pair.1 ++ (
            pair.0.0,
            let w : Stretch g.row.K.Denot g.row.V.Denot =
                record { end = c.args.at; value = x.value } in w,
          ) ∷ not_below g.K.Ord.cmp s c.args.at) lent
          ∙ end_written g.K.Ord.cmp g.met.K.Ord.total s c.in-Some.ensures.ascending c.args.at c.requires pair.1 pair.0 pair.3 test);
    }

pub returns-in-Some : goal.returns-in-Some
returns-in-Some g c =
    let pair = c.in-Some.ensures.pair in
    let seen : c.get.result.now ≡ pair.0.1 = one_value _ _ (sym c.get.ensures ∙ ap (option_map (λ e. e.1)) pair.2) in
    let test : is_lt (g.K.Ord.cmp c.args.at pair.0.1.end) ≡ false =
    ap (λ (x : Stretch g.row.K.Denot g.row.V.Denot). is_lt (g.K.Ord.cmp c.args.at x.end)) (sym seen) ∙ ap is_lt (sym c.cmp.ensures) ∙ sym c.is_lt.ensures
    ∙ c.if-is_lt.false in
    record {
      ended = ◌∙◌ {b = entries c.args.map.now} (search rules)
          (end_kept g.K.Ord.cmp g.met.K.Ord.total (entries c.args.map.now) c.in-Some.ensures.ascending c.args.at c.requires pair.1 pair.0 pair.3 test);
    }

pub returns : goal.returns
returns g c =
    record {
      ended = ◌∙◌ {b = entries c.args.map.now} (search rules)
          (end_none g.K.Ord.cmp g.met.K.Ord.total (entries c.args.map.now) c.in_default.ensures.ascending c.args.at c.requires c.in_default.ensures.pair);
    }
