-- The law of readers, proved for every grammar that can be read by its next tokens, and that of printers. Readers and
-- printers in other crates cite: `IsReadable` of `LL1`; `unroll` of `Fuel`; `Loops`; `shortens_of` of `Lists`;
-- `UntilLast` and `ItemsAndLast`; `answered` of `OneAnswer`; `ended` and `file_ended` of `Ended`; `text_answered` and
-- `unscanned` of `TextAnswer`; `EachSpells`, `each_of`, `spelled`, `texts_spell` and `same_words` of `Spelling`;
-- `EachHas`, `has_by`, `has_anyway`, `all_have`, `separated_have`, `IsFreeIfName` and `names_kept` of `Having`;
-- `read_again`, `file_read_again`, `words_alone` and `reserving_respelled` of `ReadAgain`; `joined_words` of
-- `SeparatedWords`.
pub mod Complete
pub mod Ended
pub mod Exactness
pub mod Fronts
pub mod Fuel
pub mod Having
pub mod ItemsAndLast
pub mod LL1
pub mod Lists
pub mod Loops
pub mod OneAnswer
pub mod Phrases
pub mod ReadAgain
pub mod Repeating
pub mod SameUpToTokens
pub mod SeparatedWords
pub mod Spelling
pub mod Tests
pub mod TextAnswer
pub mod UntilLast
