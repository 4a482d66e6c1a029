mod AlikeParts
mod AnsweredByKind
mod ComparedPlaces
mod ComparisonLaws
mod HashLaws
mod KnownLeaves
mod PlacesHashed
mod TotalAnswers
