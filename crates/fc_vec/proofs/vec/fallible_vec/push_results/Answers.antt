use denote.Param.Always.{mut_next}
use Rattle.std.proofs.Common.{rules, arith, ◌++◌, ◌∷◌, [], refl, sym, ap, ◌∙◌, append_assoc}
use Rattle.std.proofs.lemmas.List.{append-nil}
use Rattle.std.proofs.lemmas.Fn.{FoldsTo-push}
use Rattle.fc_vec.proofs.vec.fallible_vec.push_results.Goals as goal

pub loop-i-init : goal.loop-i-init
loop-i-init g c = (c.requires.called, search rules, search rules, ([], sym (append-nil c.args.v.now.items), refl))

pub loop-i-preserved : goal.loop-i-preserved
loop-i-preserved g c =
    let m = c.loop-i.invariant in
    let calls = m.3 in
    let item = c.f-item.result in (
      mut_next g.F.FnMut _ _ _ _ _ c.f-item.ensures refl m.0,
      omega (arith, m.1, c.push_reserved.ensures.len),
      c.push_reserved.ensures.capacity
          ∙ m.2,
      (
        calls.0 ++ item ∷ [],
        c.push_reserved.ensures.items
            ∙ ap (λ l. l ++ item ∷ []) calls.1
            ∙ append_assoc c.args.v.now.items calls.0 (item ∷ []),
        FoldsTo-push (goal.F-step g) c.args.f calls.0 c.loop-i.f item c.f-item.new.self calls.2 c.f-item.ensures,
      ),
    )
