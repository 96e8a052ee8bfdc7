-- The edges of a key in an index: before all pairs of it and an id, or after all of them.
use Rattle.std.specs.Prelude.{Bool, true, false, cond}
use Rattle.std.specs.Ordering.{ordering_then}
use Rattle.std.specs.declared.cmp.Ordering.{Ordering}
use Rattle.std.specs.declared.cmp.Ordering.TheVariants.{Less, Greater}
use Rattle.std.specs.declared.ops.Bound.{Bound}
use Rattle.std.specs.declared.ops.Bound.TheVariants.{Included, Excluded, Unbounded}

-- On which side of an edge the pairs of its key stand: after it where it is the one before.
abbrev pub side : Bool → Ordering
side before = cond before Greater Less

-- How a pair stands to an edge of a key.
abbrev pub edge_order : {K I : Type 0} → (K → K → Ordering) → K × I → K × Bool → Ordering
edge_order cmp x edge = ordering_then (cmp x.0 edge.0) (side edge.1)

-- Where the pairs start whose keys are not before a start.
abbrev pub start_edge : {K : Type 0} → Bound K → Bound (K × Bool)
start_edge (Included k) = Included (k, true)
start_edge (Excluded k) = Included (k, false)
start_edge Unbounded = Unbounded

-- Where the pairs end whose keys are not after an end.
abbrev pub end_edge : {K : Type 0} → Bound K → Bound (K × Bool)
end_edge (Included k) = Included (k, false)
end_edge (Excluded k) = Included (k, true)
end_edge Unbounded = Unbounded
