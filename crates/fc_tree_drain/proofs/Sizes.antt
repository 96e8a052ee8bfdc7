-- A tree that is taken apart fits in memory, whatever its allocator: the sizes of its parts are bounded by that of the allocator's handle.
use Rattle.std.proofs.Common.{ℕ, zero, ◌+◌, ◌*◌, ◌^◌, ◌<◌, ◌≤◌, arith}
use native.Mathlib.Nat.{mul-le-mul_left, le_refl}
use lib.Dec.{lit<}
use denote.RattleType.{RattleType}
use denote.Param.{layout, copied}
use mir.Syntax.{Width, w8, w16, w32, w64, w128, Ty, Tys, Tyss, tnil, tcons, ttnil, ttcons, ty_struct, ty_enum, ty_array}
use mir.Val.{bytes}
use prog.Memory.{size, align, aligns, alignss, up, end_of, endss}
use prog.Align.{align_w, aligns_w, alignss_w, align-bytes, aligns-bytes, alignss-bytes}
use Rattle.std.specs.declared.alloc.Allocator.{Ghosts}
use Rattle.std.specs.Mem.{type_size}
use Rattle.fc_tree_node.specs.contracts.node.Node as node
use Rattle.fc_tree_drain.specs.contracts.stack.Stack as stack
use Rattle.fc_tree_drain.specs.contracts.leaf_front.LeafFront as leaf_front
use Rattle.fc_tree_drain.specs.contracts.drain.Front as front
use Rattle.fc_tree_drain.specs.contracts.drain.Back as back
use Rattle.fc_tree_drain.specs.contracts.drain.IntoPairs as drain

-- ---- alignments, and what is added for them

bytes_most : (w : Width) → bytes w ≤ 16
bytes_most w8 = omega arith
bytes_most w16 = omega arith
bytes_most w32 = omega arith
bytes_most w64 = omega arith
bytes_most w128 = omega arith

align_most : (τ : Ty) → align τ ≤ 16
align_most τ = let e = align-bytes τ in let b = bytes_most (align_w τ) in omega arith

aligns_most : (τs : Tys) → aligns τs ≤ 16
aligns_most τs = let e = aligns-bytes τs in let b = bytes_most (aligns_w τs) in omega arith

alignss_most : (τss : Tyss) → alignss τss ≤ 16
alignss_most τss = let e = alignss-bytes τss in let b = bytes_most (alignss_w τss) in omega arith

up_most : (k e n : ℕ) → k ≤ 16 → e ≤ n → up k e ≤ 16 + n
up_most k e n h i = omega arith

pub below : {l m n : ℕ} → l ≤ m → m < n → l < n
below h i = omega arith

from_zero : {m n : ℕ} → m ≤ 0 + n → m ≤ n
from_zero h = omega arith

next : (k e s b r f : ℕ) → k ≤ 16 → s ≤ b → f ≤ up k e + s + r → f ≤ e + (16 + b + r)
next k e s b r f h i j = let a = up_most k e e h (le_refl e) in omega arith

-- ---- bounds

-- How a type is looked into: not at all; with a bound on it that is given; or at its first part, and then at the next ones.
pub data Shape : Type 0 where
  whole : Shape
  most : ℕ → Shape
  part : Shape → Shape → Shape

abbrev mutual
  -- The bounds that are given hold.
  pub Holds : Shape → Ty → Type 0
  Holds (most b) τ = size τ ≤ b
  Holds (part s r) (ty_struct ν τs) = AreHeld (part s r) τs
  Holds (part s r) (ty_enum ν τss) = EachHolds (part s r) τss
  Holds (part s r) (ty_array τ n) = Holds s τ
  Holds s τ = Unit {0}

  AreHeld : Shape → Tys → Type 0
  AreHeld (part s r) (tcons τ τs) = Holds s τ × AreHeld r τs
  AreHeld s τs = Unit {0}

  EachHolds : Shape → Tyss → Type 0
  EachHolds s ttnil = Unit {0}
  EachHolds s (ttcons τs τss) = AreHeld s τs × EachHolds s τss

-- A bound on a type's size: for each part as many bytes more as an alignment has at most.
abbrev mutual
  pub bound : Shape → Ty → ℕ
  bound (most b) τ = b
  bound (part s r) (ty_struct ν τs) = 16 + bounds (part s r) τs
  bound (part s r) (ty_enum ν τss) = 16 + (1 + boundss (part s r) τss)
  bound (part s r) (ty_array τ n) = n * bound s τ
  bound s τ = size τ

  bounds : Shape → Tys → ℕ
  bounds s tnil = 0
  bounds (part s r) (tcons τ τs) = 16 + bound s τ + bounds r τs
  bounds s (tcons τ τs) = 16 + size τ + bounds s τs

  boundss : Shape → Tyss → ℕ
  boundss s ttnil = 0
  boundss s (ttcons τs τss) = bounds s τs + boundss s τss

mutual
  pub bound_holds : (s : Shape) (τ : Ty) → Holds s τ → size τ ≤ bound s τ
  bound_holds (most b) τ h = h
  bound_holds (part s r) (ty_struct ν τs) h =
      up_most (aligns τs) (end_of zero τs) (bounds (part s r) τs) (aligns_most τs) (from_zero (ends_hold (part s r) τs 0 h))
  bound_holds (part s r) (ty_enum ν τss) h =
      up_most (alignss τss) (endss τss) (1 + boundss (part s r) τss) (alignss_most τss) (each_holds (part s r) τss h)
  bound_holds (part s r) (ty_array τ n) h = mul-le-mul_left n (bound_holds s τ h)
  bound_holds s τ h = le_refl (size τ)

  ends_hold : (s : Shape) (τs : Tys) (e : ℕ) → AreHeld s τs → end_of e τs ≤ e + bounds s τs
  ends_hold s tnil e h = omega arith
  ends_hold (part s r) (tcons τ τs) e h =
      next (align τ) e (size τ) (bound s τ) (bounds r τs) (end_of (up (align τ) e + size τ) τs) (align_most τ) (bound_holds s τ h.0)
      (ends_hold r τs (up (align τ) e + size τ) h.1)
  ends_hold s (tcons τ τs) e h =
      next (align τ) e (size τ) (size τ) (bounds s τs) (end_of (up (align τ) e + size τ) τs) (align_most τ) (le_refl (size τ))
      (ends_hold s τs (up (align τ) e + size τ) tt)

  each_holds : (s : Shape) (τss : Tyss) → EachHolds s τss → endss τss ≤ 1 + boundss s τss
  each_holds s ttnil h = omega arith
  each_holds s (ttcons τs τss) h = let a = ends_hold s τs 1 h.0 in let b = each_holds s τss h.1 in omega arith

-- ---- the shapes of the parts

abbrev pub list_shape : Shape
list_shape = part (part whole (part (most 65536) whole)) whole

abbrev pub maybe_shape : Shape → Shape
maybe_shape s = part s whole

abbrev pub node_shape : Shape
node_shape = part list_shape (part (maybe_shape (part list_shape whole)) whole)

abbrev pub nodes_shape : Shape
nodes_shape = part (part (part (part (maybe_shape node_shape) whole) whole) whole) whole

abbrev pub front_shape : Shape
front_shape = part (maybe_shape list_shape) (part nodes_shape whole)

abbrev pub back_shape : Shape
back_shape = part nodes_shape (part (maybe_shape list_shape) whole)

module _ (K V A : RattleType) (heap : Ghosts A.Denot) (h : type_size A < 65536) where
  low : type_size A ≤ 65536
  low = omega arith

  -- Where the handle is small, a stack of nodes fits in memory,
  pub nodes_fit : size (layout (stack.the_row (node.the_row K V (copied 2 A) heap))) < 2 ^ 63
  nodes_fit = below (bound_holds nodes_shape (layout (stack.the_row (node.the_row K V (copied 2 A) heap))) (search (low, tt) depth 40)) (lit< tt)

  -- the front of a tree that is taken apart,
  pub front_fits : size (layout (front.the_row K V (copied 2 A) heap)) < 2 ^ 63
  front_fits = below (bound_holds front_shape (layout (front.the_row K V (copied 2 A) heap)) (search (low, tt) depth 40)) (lit< tt)

  -- one that hands out its leaves,
  pub leaf_front_fits : size (layout (leaf_front.the_row K V (copied 2 A) heap)) < 2 ^ 63
  leaf_front_fits = below (bound_holds front_shape (layout (leaf_front.the_row K V (copied 2 A) heap)) (search (low, tt) depth 40)) (lit< tt)

  -- its back,
  pub back_fits : size (layout (back.the_row K V (copied 2 A) heap)) < 2 ^ 63
  back_fits = below (bound_holds back_shape (layout (back.the_row K V (copied 2 A) heap)) (search (low, tt) depth 40)) (lit< tt)

  -- and the whole tree.
  pub drain_fits : size (layout (drain.the_row K V (copied 2 A) heap)) < 2 ^ 63
  drain_fits =
      below (bound_holds (part front_shape (part back_shape whole)) (layout (drain.the_row K V (copied 2 A) heap)) (search (low, tt) depth 40)) (lit< tt)
