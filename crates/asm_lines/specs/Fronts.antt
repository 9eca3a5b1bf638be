-- What is told of the front of a text, in terms of its tokens.
use Rattle.std.specs.Prelude.{◌≡◌, ℕ, List, [], ◌∷◌, Some, None, length, ◌<◌, ⊤}
use Rattle.asm_lines.specs.declared.bytes.ByteClass.TheVariants.{Word}
use Rattle.asm_lines.specs.declared.front.Front.{Front}
use Rattle.asm_lines.specs.declared.front.Front.TheVariants.{End, Token, Bad}
use Rattle.asm_lines.specs.Bytes.{class_of}
use Rattle.asm_lines.specs.Tokens.{LexerState, Between, tokens_of, tokens_from, followed}

-- no token at all, or one and what follows it, or bytes that are none
abbrev pub GivesFrom : LexerState → Front → List ℕ → Type 0
GivesFrom state End text = tokens_from state text ≡ Some []
GivesFrom state (Token token rest) text = tokens_from state text ≡ followed (Some token) (tokens_of rest.now)
GivesFrom state Bad text = tokens_from state text ≡ None

abbrev pub Gives : Front → List ℕ → Type 0
Gives front text = GivesFrom Between front text

-- what follows a token is shorter than the text
abbrev pub Shortens : Front → List ℕ → Type 0
Shortens (Token token rest) text = length rest.now < length text
Shortens End text = ⊤
Shortens Bad text = ⊤

-- the first byte begins a word
abbrev pub BeginsWord : List ℕ → Type 0
BeginsWord [] = ⊥
BeginsWord (byte ∷ bytes) = class_of byte ≡ Word
