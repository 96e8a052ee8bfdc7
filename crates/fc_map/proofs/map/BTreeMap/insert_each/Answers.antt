use Rattle.std.proofs.Common.{◌≡◌, List, ◌∷◌, ℕ, ◌+◌, ◌≤◌, length, ap, ◌∙◌, arith, Option, Some, None}
use Rattle.std.specs.Prelude.{MatchOption}
use Rattle.fc_map.specs.Entries.{entries}
use Rattle.fc_tree_append.proofs.MergedFacts.{moved_on}
use Rattle.fc_tree_append.proofs.StableLaws.{extended_more}
use Rattle.fc_map.proofs.map.BTreeMap.insert_each.Goals as goal

-- each item that is left has a place: at most one is used up
left_places : {V X : Type 0} (r : Option V) (new old : ℕ) (x : X) (left rest : List X) → MatchOption r (new + 1 ≡ old) (λ _. new ≡ old) → length left ≤ old
    → left ≡ x ∷ rest → length rest ≤ new
left_places None new old x left rest used fits next = let e = ap length next in omega arith
left_places (Some v) new old x left rest used fits next = let e = ap length next in omega arith

pub loop-key-preserved : goal.loop-key-preserved
loop-key-preserved g c =
    let done = c.loop-key.invariant in
    let put = c.insert_reserved-old.ensures in
    record {
      all = moved_on c.args.items.items c.loop-key.yielded (c.in-Some.key, c.in-Some.value) _ _ done.all c.in-Some.ensures.steps.0;
      made = extended_more g.K.Ord.cmp (entries c.args.self.now) c.loop-key.yielded (entries c.loop-key.self) _ c.in-Some.key c.in-Some.value done.made put.put;
      pairs = put.pairs ∙ done.pairs;
      total = put.total ∙ done.total;
      places = left_places c.insert_reserved-old.result _ _ (c.in-Some.key, c.in-Some.value) _ _ put.places done.places c.in-Some.ensures.steps.0;
    }

pub loop-key-preserved-in-Some : goal.loop-key-preserved-in-Some
loop-key-preserved-in-Some g c =
    let done = c.loop-key.invariant in
    let put = c.insert_reserved-old.ensures in
    record {
      all = moved_on c.args.items.items c.loop-key.yielded (c.in-Some.key, c.in-Some.value) _ _ done.all c.in-Some.ensures.steps.0;
      made = extended_more g.K.Ord.cmp (entries c.args.self.now) c.loop-key.yielded (entries c.loop-key.self) _ c.in-Some.key c.in-Some.value done.made put.put;
      pairs = put.pairs ∙ done.pairs;
      total = put.total ∙ done.total;
      places = left_places c.insert_reserved-old.result _ _ (c.in-Some.key, c.in-Some.value) _ _ put.places done.places c.in-Some.ensures.steps.0;
    }
