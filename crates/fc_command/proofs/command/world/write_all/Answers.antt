use Rattle.std.proofs.Common.{rules, arith, ◌-◌, refl, ◌≡◌, ◌++◌, ◌∷◌, [], sym, ap, ◌∙◌, append_assoc, map, length}
use Rattle.std.proofs.lemmas.List.{length_push}
use Rattle.std.specs.Vec.Iter.{into_iter_items}
use Rattle.fc_map.specs.Entries.{entries}
use Rattle.fc_map.specs.Writing.{Stretch}
use Rattle.fc_lines.specs.declared.command.End.{End}
use Rattle.fc_map.specs.Stretches.{stretch}
use Rattle.fc_command.specs.Writing.{flagged}
use Rattle.fc_command.proofs.WriteFacts.{places_within, wrote_more, places_more, count_more}
use Rattle.fc_command.proofs.command.world.write_all.Goals as goal

-- nothing is written yet
pub loop-end-init : goal.loop-end-init
loop-end-init g c =
    let start = c.range_mut-walk.ensures.start in
    let all : into_iter_items c.into_iter-end-iterator.result ≡ c.args.writes.items = search rules in
    let places = ap (λ (t : Stretch g.row.K.Denot g.row.V.Denot). t.back - t.front) start ∙ places_within g.K.Ord.cmp _ _ (entries c.args.map.now) in
    record {
      same_map = refl;
      all = sym all;
      wrote = rw (start, all) refl;
      left = omega (arith, places);
      count = omega arith;
    }

-- one write more
pub loop-end-preserved : goal.loop-end-preserved
loop-end-preserved g c =
    let inv = c.loop-end.invariant in
    let w : End × g.row.V.Denot = (c.in-Some.end, c.in-Some.value) in
    let rest = into_iter_items c.next.new.self in
    let one : into_iter_items c.loop-end.end-iterator ≡ w ∷ rest = c.in-Some.ensures.steps.0 in
    let old = stretch c.loop-end.walk in
    let new = stretch c.write_at.new.walk in
    record {
      same_map = c.write_at.ensures.same_map ∙ inv.same_map;
      all = inv.all ∙ ap (λ l. c.loop-end.yielded ++ l) one ∙ sym (append_assoc c.loop-end.yielded (w ∷ []) rest);
      wrote = wrote_more old new (flagged w) (map flagged rest) _ c.write_at.ensures.written (rw one at inv.wrote);
      left = rw (length_push c.loop-end.yielded w) (places_more old new (flagged w) (length c.loop-end.yielded) _ c.write_at.ensures.written inv.left);
      count = rw (length_push c.loop-end.yielded w, c.from-count.ensures)
          (count_more c.write_at.result c.loop-end.count (length c.loop-end.yielded) _ _ _ inv.count inv.left c.write_at.ensures.lent);
    }
