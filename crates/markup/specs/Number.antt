-- The number that each refusal is reported under.
use Rattle.std.specs.Prelude.{ℕ}
use Rattle.markup.specs.declared.fault.Refusal.{Refusal}
use Rattle.markup.specs.declared.fault.Refusal.TheVariants.{BookTooLong, Stray, WrongEndTag, Unclosed, TopElement, TooDeep, TooMany, BookNameTooLong, SheetWontFit, SheetLength, HeaderField, ElementRecord, NameRecord, PatternTooLong, Misfit, TooManySteps, PatternNameTooLong, SpellingWontFit, FewRows, Gathered, Ungathered, NoPlace, ListedOut, InputTooLong}

abbrev pub number_of : Refusal → ℕ
-- a book text above 16,777,216 bytes
number_of BookTooLong = 1
-- a byte that fits no item where it stands, or a text that ends in a tag
number_of Stray = 2
-- an end tag that is not the innermost open element's
number_of WrongEndTag = 3
-- the text ends within an element
number_of Unclosed = 4
-- a second top element, or none
number_of TopElement = 5
-- an element at level 64
number_of TooDeep = 6
-- the 65,536th element or the 1,025th name
number_of TooMany = 7
-- a name of 33 bytes in a book text
number_of BookNameTooLong = 8
-- a sheet buffer that is too short
number_of SheetWontFit = 9
-- a sheet of fewer than 32 bytes, or of another length than it says
number_of SheetLength = 10
-- a wrong header field
number_of HeaderField = 11
-- a wrong element record
number_of ElementRecord = 12
-- a wrong name record, or name bytes left over
number_of NameRecord = 13
-- a pattern above 1,024 bytes
number_of PatternTooLong = 14
-- a byte that does not fit the pattern
number_of Misfit = 15
-- the 17th name, or a `[` while eight are open
number_of TooManySteps = 16
-- a name of 33 bytes in a pattern
number_of PatternNameTooLong = 17
-- a spelling buffer that is too short
number_of SpellingWontFit = 18
-- some node has more useful regions than its share has rows
number_of FewRows = 19
-- a search that is gathered already
number_of Gathered = 20
-- a search that is not gathered yet
number_of Ungathered = 21
-- a page table without a place
number_of NoPlace = 22
-- every embedding has been paged
number_of ListedOut = 23
-- a program's input above 65,536 bytes
number_of InputTooLong = 24
