-- A count of nothing is made of nothing.
use Rattle.fc_base.proofs.Steps.{[], ◌∷◌, refl, proved, ftrue, ‵, ◌⊛◌, ◌$◌, ◌∵◌, !, qed, done, keep, fjoin, suffices, enter, no_more, and_then, returns}
use Rattle.fc_base.proofs.Steps.{alloc_all, pass_all, free_all, look_at, get, sets, nothing, Stays, walk_of, says, ends_at}
use types.Kit.{use0}
use types.Part.{agg}
use denote.Builtin.{unit}
use Rattle.fc_base.proofs.Mark.{token, Mark, made}
use Rattle.fc_base.specs.contracts.asked.Asked as count
use Rattle.fc_base.specs.contracts.asked.Asked.new as f
use Rattle.fc_base.proofs.asked.Asked.new.Statement.{statement}
use Rattle.fc_base.proofs.asked.Asked.new.Code as code

abbrev stayed : Stays f.ended.signature.params f.ended.kept
stayed = tt

pub new_spec : {M : Type 1} → statement M
new_spec 𝓤 𝓛 𝓜 𝓡 wired =
    let c = f.clauses 𝓛 𝓜.mem 𝓡.returns in let W = walk_of 𝓛 f.ended stayed c in
    proved 𝓛 f.ended stayed c 𝓜 𝓡 tt
    f.Key.name code.function (code.unfolded 𝓤 𝓛.H 𝓜 𝓡 wired)
    (λ κs. tt) (λ κs. tt) (λ κs qs bounds a _ are.
    let y : W.Ghost = ((κs, qs, bounds, a, tt), tt) in
    qed 𝓛 ((‵ ftrue ⊛ ‵ ftrue) ∷ ‵ ftrue ∷ []) ∵ keep ! [] $
    enter ! _ _ _ _ _ $ alloc_all ! (λ l. pass_all ! refl tt $
    sets ! (agg ! (no_more !)) refl (tt, tt) $ sets ! (agg ! (and_then ! (get ! refl) (no_more !))) refl (tt, (tt, tt)) $
    returns ! (look_at ! 0 refl) $ free_all ! refl $
    suffices ! _ (ends_at 𝓛 f.ended stayed c y token record { marker = record {}; requests = 0 } tt tt) $
    says ! refl $ nothing ! $ use0 𝓛 (‵ ((Mark (count.the_type).name [] unit).own_val (tt, tt) (token ∷ []))) (made (count.the_type).name [] unit 𝓛) $
    fjoin ! $ nothing ! $ nothing ! $ done !))
