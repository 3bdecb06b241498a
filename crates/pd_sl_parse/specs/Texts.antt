-- Definition: the bytes of names and texts are UTF-8 in a source whose bytes are.
use Rattle.std.specs.Prelude.{ℕ, List, [], ◌∷◌}
use Rattle.std.specs.Str.{IsUtf8}
use Rattle.pd_sections.specs.declared.Token.{Token}
use Rattle.pd_sections.specs.declared.TokenKind.{TokenKind}
use Rattle.pd_sections.specs.declared.TokenKind.TheVariants as kinds
use Rattle.pd_sl_read.specs.Tokens.{text_of}
use Rattle.pd_sl_parse.specs.Additions.{inner}

-- a name's bytes are UTF-8, and so are a text's between its `"`
abbrev pub IsSpelled : TokenKind → List ℕ → Type 0
IsSpelled kinds.Name bytes = IsUtf8 bytes
IsSpelled kinds.Text bytes = IsUtf8 (inner bytes)
IsSpelled _ bytes = Unit {0}

-- the bytes of each name and of each text are UTF-8
abbrev pub AllSpelled : List ℕ → List Token → Type 0
AllSpelled bytes [] = Unit {0}
AllSpelled bytes (token ∷ tokens) = IsSpelled token.kind (text_of bytes token) × AllSpelled bytes tokens
