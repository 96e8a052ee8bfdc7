use Rattle.std.proofs.Common.{◌<◌, ◌≤◌, subst, sym, ap, ◌∙◌, refl}
use Rattle.fc_base.specs.Sizes.{capacity}
use Rattle.fc_tree_build.specs.Built.{IsGrown, grown, last_room}
use Rattle.fc_tree_build.proofs.GrownFacts.{grown_leaf, all_pairs, all_room, put_grown, put_pairs, put_room, no_room, none_left}
use Rattle.fc_tree_build.proofs.growing.GrowingBuilder.put_in_leaf.Goals as goal
use Rattle.fc_tree_build.proofs.growing.GrowingBuilder.put_in_leaf.Goals.{in-Some+else-len-lt-CAPACITY, in_default}

pub invariant_of-self : goal.invariant_of-self
invariant_of-self g c =
    let less = subst (λ n. n < capacity) c.len.ensures.value c.if-len-lt-CAPACITY.true in
    put_grown c.self.inside.spine c.self.inside.before c.in-Some.leaf c.put_pair.new.node c.args.pair (grown_leaf _ _ _ _ c.in-Some.is c.self.invariant) less
    c.put_pair.ensures.pairs c.put_pair.ensures.leaf

pub returns-then-len-lt-CAPACITY-clause-put : goal.returns-then-len-lt-CAPACITY-clause-put
returns-then-len-lt-CAPACITY-clause-put g c none =
    put_pairs c.self.inside.spine c.in-Some.leaf c.put_pair.new.node c.args.pair c.args.self.now.pairs c.put_pair.ensures.pairs
    (all_pairs _ _ c.self.inside.spine _ c.in-Some.is c.self.view_is)

pub returns-then-len-lt-CAPACITY-clause-room : goal.returns-then-len-lt-CAPACITY-clause-room
returns-then-len-lt-CAPACITY-clause-room g c none =
    let less = subst (λ n. n < capacity) c.len.ensures.value c.if-len-lt-CAPACITY.true in
    put_room c.in-Some.leaf c.put_pair.new.node c.args.pair c.args.self.now.room less c.put_pair.ensures.pairs
    (all_room _ _ c.self.inside.spine _ c.in-Some.is c.self.view_is)

pub invariant_of-self-2 : goal.invariant_of-self-2
invariant_of-self-2 g c = elim c.match-self.branch [
  | in-Some+else-len-lt-CAPACITY w ↦
      subst (λ x. IsGrown x.spine x.last x.before) (sym w.self-inside-is) (grown_leaf _ _ _ _ w.in-Some.is c.self.invariant)
  | in_default w ↦ subst (λ x. IsGrown x.spine x.last x.before) (sym w.self-inside-is) c.self.invariant
]

pub returns-clause-taken : goal.returns-clause-taken
returns-clause-taken g c some =
    absurd (elim c.match-self.branch [
      | in-Some+else-len-lt-CAPACITY w ↦
          no_room w.in-Some.leaf _ (subst (λ n. capacity ≤ n) w.len.ensures.value w.if-len-lt-CAPACITY.false)
          (all_room _ _ c.self.inside.spine _ w.in-Some.is c.self.view_is) some
      | in_default w ↦ none_left _ (ap last_room (sym w.in_default.is) ∙ ap (λ v. v.room) c.self.view_is) some
    ])

pub returns-clause-back : goal.returns-clause-back
returns-clause-back g c = (
  refl,
  elim c.match-self.branch [
    | in-Some+else-len-lt-CAPACITY w ↦
        ap (λ x. grown x.spine x.last) w.self-inside-is ∙ ap (λ o. grown c.self.inside.spine o) (sym w.in-Some.is) ∙ c.self.view_is
    | in_default w ↦ ap (λ x. grown x.spine x.last) w.self-inside-is ∙ c.self.view_is
  ],
)
