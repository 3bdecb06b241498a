-- Definition: what reading the tokens of a source answers.
use Rattle.std.specs.Prelude.{◌≡◌, ℕ, List}
use Rattle.pd_sections.specs.declared.Token.{Token}
use Rattle.pd_sections.specs.declared.Rule.{Rule}
use Rattle.pd_sections.specs.declared.Rule.TheVariants as rules
use Rattle.pd_sections.specs.declared.Stop.{Stop}
use Rattle.pd_sections.specs.declared.Stop.TheVariants.{Refused, Memory}
use Rattle.pd_sections.specs.declared.Refusal.{Refusal}
use Rattle.pd_turn.specs.declared.Node.{Node}
use Rattle.pd_sl_spell.specs.Words.{Word, Trees}
use Rattle.pd_sl_spell.specs.Refusals as spelling
use Rattle.pd_sl_spell.specs.Refusals.{Accepts, Refuses}
use Rattle.pd_sl_read.specs.declared.parts.Part.{Part}
use Rattle.pd_turn.specs.Turned.{pres}
use Rattle.pd_sl_read.specs.Places.{posts, roses}
use Rattle.pd_sl_read.specs.Tokens.{words_of, place_of}

-- a rule of the spelling as a refusal tells it
abbrev pub rule_of : spelling.Rule → Rule
rule_of spelling.Unexpected = rules.Unexpected
rule_of spelling.LiteralTooLarge = rules.LiteralTooLarge
rule_of spelling.TooDeep = rules.TooDeep
rule_of spelling.TooManyNodes = rules.TooManyNodes

-- the nodes, each before its parts, are those of the one tree that the tokens spell within the rules
abbrev pub AreNodesOf : ℕ → List ℕ → List Token → List (Node Part) → Type 0
AreNodesOf room bytes tokens nodes = (T : Trees) × Accepts room (words_of bytes tokens) T × (nodes ≡ pres (roses 0 T))

-- the same nodes, each after its parts
abbrev pub AreNodesBehind : ℕ → List ℕ → List Token → List (Node Part) → Type 0
AreNodesBehind room bytes tokens nodes = (T : Trees) × Accepts room (words_of bytes tokens) T × (nodes ≡ posts 0 T)

-- the tokens are refused for this rule at this byte, which is the first of a token or the text's length
pub record IsRefused (room : ℕ) (bytes : List ℕ) (tokens : List Token) (refusal : Refusal) : Type 0 where
  pub rule : spelling.Rule
  pub at : ℕ
  pub refuses : Refuses room (words_of bytes tokens) rule at
  pub rule_is : refusal.rule ≡ rule_of rule
  pub place_is : refusal.at ≡ place_of bytes tokens at

-- a call stops with the first breach of a rule, or for memory
abbrev pub StopsFor : ℕ → List ℕ → List Token → Stop Refusal → Type 0
StopsFor room bytes tokens (Refused refusal) = IsRefused room bytes tokens refusal
StopsFor room bytes tokens Memory = Unit {0}
