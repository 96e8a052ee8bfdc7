use Rattle.std.proofs.Common.{◌≡◌, ◌∙◌, sym, ap, length, true, false, arith}
use Rattle.std.specs.Bool.{◌==◌}
use Rattle.fc_tree_cursor.proofs.Slices.{parts_length}
use Rattle.fc_tree_cursor.proofs.span.Span.is_empty.Goals as goal

pub returns-then-not-is_empty : goal.returns-then-not-is_empty
returns-then-not-is_empty g c =
    let now = sym (ap length c.self.view_is) ∙ parts_length c.self.inside.head.now _ c.self.inside.tail.now in
    let test : false ≡ (length c.self.inside.head.now == 0) = sym c.if-not-is_empty.true ∙ c.is_empty.ensures in (
      λ e. absurd (let no : false ≡ true = e in cc),
      λ e.
          let none = ap length e in
          let head : length c.self.inside.head.now ≡ 0 = omega (arith, now, none) in
          let no : false ≡ true = test ∙ ap (λ n. n == 0) head in
          absurd cc,
    )
