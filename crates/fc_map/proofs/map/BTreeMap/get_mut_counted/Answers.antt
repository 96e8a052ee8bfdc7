use Rattle.std.proofs.Common.{rules, sym, ap, ◌∙◌, inl}
use Rattle.std.specs.Option.{option_map}
use Rattle.fc_map.specs.Lends.{written_in}
use Rattle.fc_map.specs.LendsKey.{path_in}
use Rattle.fc_map.proofs.PlaceFacts.{held_pair, replaced}
use Rattle.fc_map.proofs.map.BTreeMap.get_mut_counted.Goals as goal

pub returns-in-Ok : goal.returns-in-Ok
returns-in-Ok g c =
    let m = c.args.self.now in
    let k = g.Q.Query.sought c.args.key in
    let cmp = g.Q.Query.order in
    let f = c.in-Ok.ensures in
    let there = rw f.path at f.found in (
      λ i. inl (c.value_mut.result.ghost_name, written_in m (f.path i)),
      record {
        writes_back = tt;
        value = sym (ap (option_map (λ e. e.1)) (held_pair cmp k m c.locate.new.path f.sound f.found) ∙ c.value_mut.ensures.value);
        put = λ j w. (replaced cmp k m (path_in cmp k m) w f.sound there).put_is j;
        sound = λ w. (replaced cmp k m (path_in cmp k m) w f.sound there).sound;
        ascending = f.ascending;
        comparisons = search rules;
        moves = search rules;
        bounded = search rules;
      },
    )
