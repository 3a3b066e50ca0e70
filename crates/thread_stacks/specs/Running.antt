-- How the code finds a segment. No promise of a call rests on these.
pub mod LastPlaces
