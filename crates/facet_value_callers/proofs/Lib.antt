mod EmptyLists
mod Leaves
mod LeafOptions
mod ReplacedLeaves
