use Rattle.std.proofs.Common.{rules, ◌≡◌, ◌∙◌, ◌++◌, ◌∷◌, inl, inr, sym, ap}
use Rattle.std.specs.Option.{option_map}
use Rattle.fc_base.specs.Halves.{not_below}
use Rattle.fc_map.specs.Entries.{entries}
use Rattle.fc_intervals.specs.declared.stretch.Stretch.{Stretch}
use Rattle.fc_intervals.proofs.Lists.{one_value}
use Rattle.fc_intervals.proofs.joins.draw_out.Goals as goal

pub returns-in-Some : goal.returns-in-Some
returns-in-Some g c =
    let s = entries c.args.map.now in
    let pair = c.in-Some.ensures.pair in
    let lent : c.get_mut.result.now ≡ pair.0.1 = one_value _ _ (sym c.get_mut.ensures.value ∙ ap (option_map (λ e. e.1)) pair.2) in
    let written : Stretch g.row.K.Denot g.row.V.Denot = record { end = c.args.end; value = c.get_mut.result.now.value } in
    record {
      ended = inr (record {
        lead = pair.1;
        last = pair.0;
        before = pair.3;
        is = ◌∙◌ {b = entries c.drop-entry.new.self.0} (search rules) (ap entries c.drop-entry.ensures ∙ pair.5 written
            ∙ ap (λ (x : Stretch g.row.K.Denot g.row.V.Denot). pair.1 ++ (
              pair.0.0,
              let w : Stretch g.row.K.Denot g.row.V.Denot =
                  record { end = c.args.end; value = x.value } in w,
            ) ∷ not_below g.K.Ord.cmp s c.args.at) lent);
      });
    }

pub returns-in_default : goal.returns-in_default
returns-in_default g c = record { ended = inl c.in_default.ensures.pair }
