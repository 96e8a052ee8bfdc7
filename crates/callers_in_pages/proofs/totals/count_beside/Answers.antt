use Rattle.std.proofs.Common.{◌∙◌, ap}
use Rattle.std.specs.Prelude.{string_bytes}
use Rattle.std.specs.String.{string_cmp}
use Rattle.std.specs.Cmp.Lexicographic.{nat_list_cmp_total}
use Rattle.std.proofs.lemmas.Cmp.{on_total}
use Rattle.fallible_collections.specs.Words.{entries, text_order, value_at}
use Rattle.fallible_collections.proofs.Laws.{text_order_fits, value_at_cut_other_query}
use Rattle.callers_in_pages.proofs.totals.count_beside.Goals as goal

pub returns : goal.returns
returns c =
    c.copied.ensures ∙ c.get.ensures.value ∙ ap (λ s. value_at text_order s c.args.other.now) c.remove.ensures.rest
    ∙ value_at_cut_other_query string_cmp text_order (on_total string_bytes nat_list_cmp_total) text_order_fits (entries c.args.counts.now) c.args.word.now
    c.args.other.now c.requires
