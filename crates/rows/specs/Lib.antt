-- What the steps on rows make of the words: those of Steps over the width, at the width of a record's rows in Part, which the public functions promise; the
-- records of Rounds are the promises of the steps of a round.
pub mod Steps
pub mod Part
pub mod Rounds
