use Rattle.std.proofs.lemmas.Cmp.{nat_list_cmp_total, tied_itself}
use Rattle.std.specs.Prelude.{string_bytes}
use Rattle.callers_of_map.proofs.queries.insert_then_get_text.Goals as goal

pub insert_then_get_equal-requires : goal.insert_then_get_equal-requires
insert_then_get_equal-requires g c = rw c.requires (tied_itself nat_list_cmp_total (string_bytes c.args.key))
