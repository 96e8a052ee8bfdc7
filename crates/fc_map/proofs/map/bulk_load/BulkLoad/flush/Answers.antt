use Rattle.std.proofs.Common.{◌<◌, sym, ap, subst}
use denote.Param.{param}
use Rattle.fc_map.proofs.BulkInsertSizes.{bulk_insert_fits}
use Rattle.fc_map.proofs.LoadFacts.{refused_over}
use Rattle.fc_map.proofs.map.bulk_load.BulkLoad.flush.Goals as goal

pub put_gathered-requires : goal.put_gathered-requires
put_gathered-requires g c = bulk_insert_fits (param 0 g.row.K) (param 1 g.row.V) g.row.A g.K.Ord g.K.PartialEq g.K.PartialOrd g.A.Allocator g.met.A.Handle.small

pub returns-clause-error : goal.returns-clause-error
returns-clause-error g c =
    refused_over g.K.Ord.cmp c.put_gathered.result c.args.self.now.placed c.self.inside.placed.pairs c.args.self.now.gathered c.self.inside.gathered.items
    c.put_gathered.new.placed.pairs (ap (λ l. l.placed) c.self.view_is) (ap (λ l. l.gathered) c.self.view_is) c.put_gathered.ensures.error

pub returns-clause-none : goal.returns-clause-none
returns-clause-none g c opened =
    c.put_gathered.ensures.no_request (c.self.invariant (subst (λ n. 0 < n) (sym (ap (λ l. l.single) c.self.view_is)) opened.1))
