-- Definition: tokens by their numbers, their texts, and where nodes stand.
use Rattle.std.specs.Prelude.{ℕ, zero, suc, ◌+◌, ◌-◌, ◌*◌, nat_lt, if◌then◌else◌, List, slice_index_or}
use Rattle.pd_sections.specs.declared.Token.{Token}
use Rattle.pd_sections.specs.declared.TokenKind.TheVariants.{Name as NameToken}
use Rattle.pd_sections.specs.declared.Section.{Section}
use Rattle.pd_pl0_read.specs.declared.parts.Part.{Part}
use Rattle.pd_pl0_read.specs.Tokens.{text_of}

-- what stands for a token after the last
abbrev pub no_token : Token
no_token = record { kind = NameToken; start = 0; len = 0 }

-- the token with this number
abbrev pub token_at : List Token → ℕ → Token
token_at tokens i = slice_index_or tokens i no_token

-- the bytes of the token with this number
abbrev pub text_at : List ℕ → List Token → ℕ → List ℕ
text_at bytes tokens i = text_of bytes (token_at tokens i)

-- from the first token's first byte to the last token's last; without a token nothing, where the next one begins
abbrev pub length_of : List Token → ℕ → ℕ → ℕ
length_of tokens first end =
    if nat_lt first end then ((token_at tokens (end - 1)).start + (token_at tokens (end - 1)).len) - (token_at tokens first).start else 0

-- the section of a node, from its first token to its last
abbrev pub section_of : ℕ → List Token → Part → Section
section_of source tokens p = record { source = source; start = (token_at tokens p.first).start; len = length_of tokens p.first p.end }

-- the first token after `const`, if a block that begins at `first` has constants, and after its `var`
abbrev pub first_constant : ℕ → ℕ
first_constant first = first + 1

-- the first token after `var` in a block that begins at this token and has so many constants
abbrev pub first_variable : ℕ → ℕ → ℕ
first_variable first zero = first + 1
first_variable first (suc n) = (first + 4 * suc n) + 2
