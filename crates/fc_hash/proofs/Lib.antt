mod CopyFacts
mod EqualFacts
mod ExtendFacts
mod ItemFacts
mod PairFacts
