use Rattle.std.proofs.Common.{◌≡◌, ◌-◌, ◌<◌, ◌∷◌, [], ◌++◌, length, refl, sym, ap, ◌∙◌, subst, append_assoc, arith}
use Rattle.fc_base.specs.Sizes.{capacity}
use Rattle.fc_tree_node.specs.Node.{own_pairs}
use Rattle.fc_tree_drain.specs.Opened.{before_back}
use Rattle.fc_tree_build.specs.Built.{last_pairs, last_room, IsGrown, grown}
use Rattle.fc_tree_build.proofs.Ends.{after_leaf}
use Rattle.fc_tree_build.proofs.GrownFacts.{grown_leaf, all_pairs, all_room, put_grown, put_pairs, put_room}
use Rattle.fc_tree_build.proofs.growing.GrowingBuilder.put_if_after.Goals as goal
use Rattle.fc_tree_build.proofs.growing.GrowingBuilder.put_if_after.Goals.{else-len-gt0-via-else-len-gt0, else-len-gt0-via-then-len-gt0+else-len-lt-CAPACITY}
use Rattle.fc_tree_build.proofs.growing.GrowingBuilder.put_if_after.Goals.{else-len-gt0-via-then-len-gt0+then-len-lt-CAPACITY+else-is_after}

pub returns-then-is_after-clause-after : goal.returns-then-is_after-clause-after
returns-then-is_after-clause-after g c =
    let b = c.if-is_after.ensures.0 refl in
    let s = before_back c.self.inside.spine in
    λ _. (
      s ++ b.0,
      b.1,
      sym (ap (λ v. v.pairs) c.self.view_is) ∙ ap (λ o. s ++ last_pairs o) c.in-Some.is ∙ ap (λ ps. s ++ ps) b.2 ∙ sym (append_assoc s b.0 (b.1 ∷ [])),
      b.3,
    )

-- the last leaf has a pair and room, and the key is after: one of the three was found not to be so
pub returns-clause-taken : goal.returns-clause-taken
returns-clause-taken g c some less after =
    let v = c.len.ensures.value in
    let s = before_back c.self.inside.spine in
    let own = own_pairs c.in-Some.leaf in
    let room : capacity - length own ≡ c.args.self.now.room = ap last_room (sym c.in-Some.is) ∙ ap (λ v. v.room) c.self.view_is in
    let pairs : s ++ own ≡ c.args.self.now.pairs = ap (λ o. s ++ last_pairs o) (sym c.in-Some.is) ∙ ap (λ v. v.pairs) c.self.view_is in
    let last = λ (some : 0 < length own). after_leaf g.K.Ord.cmp s own c.args.self.now.pairs c.args.pair.0 pairs some after in
    absurd (elim c.else-len-gt0.branch [
      | else-len-gt0-via-else-len-gt0 w ↦ (omega arith)
      | else-len-gt0-via-then-len-gt0+else-len-lt-CAPACITY w ↦
          (omega arith)
      | else-len-gt0-via-then-len-gt0+then-len-lt-CAPACITY+else-is_after w ↦
          (cc (w.if-is_after.ensures.1 (last (omega arith))))
    ])

pub invariant_of-self-then-is_after : goal.invariant_of-self-then-is_after
invariant_of-self-then-is_after g c =
    let less = subst (λ n. n < capacity) c.len-then-len-gt0.ensures.value c.if-len-lt-CAPACITY.true in
    put_grown c.self.inside.spine c.self.inside.before c.in-Some.leaf c.put_pair.new.node c.args.pair (grown_leaf _ _ _ _ c.in-Some.is c.self.invariant) less
    c.put_pair.ensures.pairs c.put_pair.ensures.leaf

pub returns-then-is_after-clause-put : goal.returns-then-is_after-clause-put
returns-then-is_after-clause-put g c none =
    put_pairs c.self.inside.spine c.in-Some.leaf c.put_pair.new.node c.args.pair c.args.self.now.pairs c.put_pair.ensures.pairs
    (all_pairs _ _ c.self.inside.spine _ c.in-Some.is c.self.view_is)

pub returns-then-is_after-clause-room : goal.returns-then-is_after-clause-room
returns-then-is_after-clause-room g c none =
    let less = subst (λ n. n < capacity) c.len-then-len-gt0.ensures.value c.if-len-lt-CAPACITY.true in
    put_room c.in-Some.leaf c.put_pair.new.node c.args.pair c.args.self.now.room less c.put_pair.ensures.pairs
    (all_room _ _ c.self.inside.spine _ c.in-Some.is c.self.view_is)

pub invariant_of-self-2 : goal.invariant_of-self-2
invariant_of-self-2 g c =
    let kept = grown_leaf _ _ _ _ c.in-Some.is c.self.invariant in
    elim c.else-len-gt0.branch [
      | else-len-gt0-via-else-len-gt0 w ↦ subst (λ x. IsGrown x.spine x.last x.before) (sym w.self-inside-is) kept
      | else-len-gt0-via-then-len-gt0+else-len-lt-CAPACITY w ↦ subst (λ x. IsGrown x.spine x.last x.before) (sym w.self-inside-is) kept
      | else-len-gt0-via-then-len-gt0+then-len-lt-CAPACITY+else-is_after w ↦ subst (λ x. IsGrown x.spine x.last x.before) (sym w.self-inside-is) kept
    ]

pub returns-clause-back : goal.returns-clause-back
returns-clause-back g c =
    let kept = ap (λ o. grown c.self.inside.spine o) (sym c.in-Some.is) ∙ c.self.view_is in (
      refl,
      elim c.else-len-gt0.branch [
        | else-len-gt0-via-else-len-gt0 w ↦ ap (λ x. grown x.spine x.last) w.self-inside-is ∙ kept
        | else-len-gt0-via-then-len-gt0+else-len-lt-CAPACITY w ↦ ap (λ x. grown x.spine x.last) w.self-inside-is ∙ kept
        | else-len-gt0-via-then-len-gt0+then-len-lt-CAPACITY+else-is_after w ↦ ap (λ x. grown x.spine x.last) w.self-inside-is ∙ kept
      ],
    )
