use Rattle.std.proofs.Common.{◌∙◌, ap, sym, Some}
use Rattle.std.specs.Option.{option_map}
use Rattle.fc_map.proofs.PlaceFacts.{held_pair, replaced}
use Rattle.fc_map.proofs.map.BTreeMap.replace_at.Goals as goal

pub returns-clause-old : goal.returns-clause-old
returns-clause-old g c =
    ap (option_map (λ e. e.1)) (held_pair g.K.Ord.cmp c.args.key.now c.args.self.now c.args.path.now c.requires.sound c.requires.held)
    ∙ c.value_mut.ensures.value ∙ ap Some (sym c.replace.ensures.value)

pub returns-clause-put : goal.returns-clause-put
returns-clause-put g c =
    rw c.replace.ensures.after ((replaced g.K.Ord.cmp c.args.key.now c.args.self.now c.args.path.now c.args.value c.requires.sound c.requires.held).put_is
    c.args.key.now)

pub returns-clause-length : goal.returns-clause-length
returns-clause-length g c = (replaced g.K.Ord.cmp c.args.key.now c.args.self.now c.args.path.now c.replace.new.dest c.requires.sound c.requires.held).length_is

pub returns-clause-sound : goal.returns-clause-sound
returns-clause-sound g c = (replaced g.K.Ord.cmp c.args.key.now c.args.self.now c.args.path.now c.replace.new.dest c.requires.sound c.requires.held).sound

pub returns-clause-blocks : goal.returns-clause-blocks
returns-clause-blocks g c =
    (replaced g.K.Ord.cmp c.args.key.now c.args.self.now c.args.path.now c.replace.new.dest c.requires.sound c.requires.held).blocks_is
