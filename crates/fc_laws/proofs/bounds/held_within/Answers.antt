use Rattle.fc_laws.proofs.BlockLaws.{blocks_map}
use Rattle.fc_laws.proofs.Counted.{nodes_map, inner_map, bytes_map}
use Rattle.fc_laws.proofs.bounds.held_within.Goals as goal

pub returns-clause-nodes : goal.returns-clause-nodes
returns-clause-nodes g c = nodes_map c.args.map.now c.len-len.ensures.sound

pub returns-clause-inner : goal.returns-clause-inner
returns-clause-inner g c = inner_map c.args.map.now c.len-len.ensures.sound

pub returns-clause-bytes : goal.returns-clause-bytes
returns-clause-bytes g c = λ p q n le. bytes_map p q n c.args.map.now c.len-len.ensures.sound le

pub returns-clause-blocks : goal.returns-clause-blocks
returns-clause-blocks g c = blocks_map c.args.map.now
