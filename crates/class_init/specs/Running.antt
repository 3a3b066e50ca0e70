-- How the code finds a queued thread. No promise of a call rests on these.
pub mod FirstPlaces
