-- How many requests for memory calls on whole maps make.
pub use Rattle.fc_tree_append.specs.Requests.{given_requests, join_requests}
pub use Rattle.fc_tree_node.specs.Blocks.{blocks_in}
