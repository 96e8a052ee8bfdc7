-- How many requests for memory a load of pairs that ascend makes.
pub use Rattle.fc_tree_build.specs.Loads.{load_requests}
