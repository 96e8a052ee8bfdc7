use Rattle.std.proofs.Common.{◌-◌}
use Rattle.example_boxes.proofs.tracks.+read_boxes.Given as goal

abbrev pub decreases-read_boxes : goal.decreases-read_boxes
decreases-read_boxes l = 8 - l.depth
