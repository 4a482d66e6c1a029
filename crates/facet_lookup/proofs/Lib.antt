mod FoundValues
mod KeySearch
mod KeyShapes
mod KeyedPlaces
mod SearchedKeys
