-- What the definitions say of small texts, by computation.
use Rattle.std.proofs.Common.{◌≡◌, [], ◌∷◌, Some, None, refl}
use Rattle.std.specs.Prelude.{codes}
use Rattle.pd_sections.specs.declared.TokenKind.TheVariants.{Name, Number, Text, Keyword, Symbol}
use Rattle.pd_sections.specs.declared.Rule.TheVariants.{BadByte, OpenText, OpenComment}
use Rattle.pd_sections.specs.declared.Piece.TheVariants.{Blank, Word, Fault}
use Rattle.pd_sections.specs.Positions.{line_at, column_at}
use Rattle.pd_sections.specs.Pl0Pieces.{pl0_piece}
use Rattle.pd_sections.specs.SlPieces.{sl_piece}

-- a \r \n b \r c: between `\r` and `\n` the line hasn't ended
between : line_at (97 ∷ 13 ∷ 10 ∷ 98 ∷ 13 ∷ 99 ∷ []) 2 ≡ 1
between = refl

between_column : column_at (97 ∷ 13 ∷ 10 ∷ 98 ∷ 13 ∷ 99 ∷ []) 2 ≡ 3
between_column = refl

behind_both : line_at (97 ∷ 13 ∷ 10 ∷ 98 ∷ 13 ∷ 99 ∷ []) 3 ≡ 2
behind_both = refl

behind_all : column_at (97 ∷ 13 ∷ 10 ∷ 98 ∷ 13 ∷ 99 ∷ []) 6 ≡ 2
behind_all = refl

last_line : line_at (97 ∷ 13 ∷ 10 ∷ 98 ∷ 13 ∷ 99 ∷ []) 6 ≡ 3
last_line = refl

a_keyword : sl_piece (codes "while") ≡ Some (Word Keyword)
a_keyword = refl

a_longer_name : sl_piece (codes "while_") ≡ Some (Word Name)
a_longer_name = refl

a_capital : sl_piece (codes "If$1") ≡ Some (Word Name)
a_capital = refl

zero : sl_piece (codes "0") ≡ Some (Word Number)
zero = refl

zero_and_more : sl_piece (codes "01") ≡ None
zero_and_more = refl

ten : sl_piece (codes "10") ≡ Some (Word Number)
ten = refl

a_text : sl_piece (34 ∷ 97 ∷ 206 ∷ 177 ∷ 34 ∷ []) ≡ Some (Word Text)
a_text = refl

an_empty_text : sl_piece (34 ∷ 34 ∷ []) ≡ Some (Word Text)
an_empty_text = refl

two_texts : sl_piece (34 ∷ 34 ∷ 34 ∷ 34 ∷ []) ≡ None
two_texts = refl

a_text_over_a_line : sl_piece (34 ∷ 10 ∷ 34 ∷ []) ≡ None
a_text_over_a_line = refl

-- "a\" is closed, and its fault is the backslash
a_backslash : sl_piece (34 ∷ 97 ∷ 92 ∷ 34 ∷ []) ≡ Some (Fault BadByte 2)
a_backslash = refl

an_open_backslash : sl_piece (34 ∷ 97 ∷ 92 ∷ []) ≡ None
an_open_backslash = refl

an_opener : sl_piece (34 ∷ []) ≡ Some (Fault OpenText 0)
an_opener = refl

not_closed_by_itself : sl_piece (codes "/*/") ≡ None
not_closed_by_itself = refl

closed : sl_piece (codes "/*/*/") ≡ Some Blank
closed = refl

closed_before : sl_piece (codes "/**/*/") ≡ None
closed_before = refl

a_comment_opener : sl_piece (codes "/*") ≡ Some (Fault OpenComment 0)
a_comment_opener = refl

a_line_comment : sl_piece (codes "// a // b") ≡ Some Blank
a_line_comment = refl

a_comment_and_its_line_end : sl_piece (47 ∷ 47 ∷ 10 ∷ []) ≡ None
a_comment_and_its_line_end = refl

a_slash : sl_piece (codes "/") ≡ Some (Word Symbol)
a_slash = refl

at_most : sl_piece (codes "<=") ≡ Some (Word Symbol)
at_most = refl

not_a_pair : sl_piece (codes "=<") ≡ None
not_a_pair = refl

one_of_two : sl_piece (codes "&") ≡ None
one_of_two = refl

both : sl_piece (codes "&&") ≡ Some (Word Symbol)
both = refl

bang : sl_piece (codes "!") ≡ None
bang = refl

-- PL/0

a_procedure : pl0_piece (codes "procedure") ≡ Some (Word Keyword)
a_procedure = refl

no_keyword_of_sl : pl0_piece (codes "function") ≡ Some (Word Name)
no_keyword_of_sl = refl

a_dollar : pl0_piece (codes "$") ≡ None
a_dollar = refl

zeros : pl0_piece (codes "007") ≡ Some (Word Number)
zeros = refl

becomes : pl0_piece (codes ":=") ≡ Some (Word Symbol)
becomes = refl

a_colon : pl0_piece (codes ":") ≡ None
a_colon = refl

a_hash : pl0_piece (codes "#") ≡ Some (Word Symbol)
a_hash = refl

unequal : pl0_piece (codes "!=") ≡ None
unequal = refl

a_form_feed : pl0_piece (12 ∷ []) ≡ None
a_form_feed = refl
