mod BlockSizes
mod MadeSequences
mod Tags
