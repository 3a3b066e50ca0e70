mod FaultLaws
mod Fronts
mod LineLaws
mod Numerals
mod OneReading
mod Reading
mod Writing
