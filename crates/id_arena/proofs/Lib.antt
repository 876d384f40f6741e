pub mod FirstPlaces
pub mod StoredNames
