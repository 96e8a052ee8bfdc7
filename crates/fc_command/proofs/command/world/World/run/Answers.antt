use Rattle.std.proofs.Common.{rules, ◌≡◌, append-nil, List, ◌++◌, ◌∷◌, [], sym, ◌∙◌, ap, append_assoc, arith, length-append, length}
use Rattle.std.proofs.lemmas.List.{nil_from_length}
use Rattle.std.specs.Vec.Iter.{into_iter_items}
use Rattle.fc_command.proofs.RunFacts.{runs_more}
use Rattle.fc_command.proofs.command.world.World.run.Goals as goal

none_left : {X : Type 0} (all done rest : List X) → all ≡ done ++ rest → length rest ≡ 0 → all ≡ done
none_left all done rest is none = is ∙ ap (λ l. done ++ l) (nil_from_length rest none) ∙ append-nil done

-- one command more ran
pub loop-command-preserved : goal.loop-command-preserved
loop-command-preserved g c =
    let told : c.push.new.self.items ≡ c.loop-command.replies.items ++ c.step.result ∷ [] = rw c.unwrap.ensures at c.push.ensures.items in
    record {
      all = c.loop-command.invariant.all ∙ ap (λ l. c.loop-command.yielded ++ l) c.in-Some.ensures.steps.0
          ∙ sym (append_assoc c.loop-command.yielded (c.in-Some.command ∷ []) _);
      ran = rw told (runs_more g.K.Ord.cmp _ _ _ _ _ _ _ _ _ c.loop-command.invariant.ran c.step.ensures);
      room = omega (arith, c.loop-command.invariant.room, simp length-append at (ap length told), ap length c.in-Some.ensures.steps.0, c.push.ensures.capacity);
    }

-- all commands ran
pub returns-clause-ran : goal.returns-clause-ran
returns-clause-ran g c = rw (none_left _ _ (into_iter_items c.loop-command.command-iterator) c.loop-command.invariant.all (search rules))
    c.loop-command.invariant.ran
