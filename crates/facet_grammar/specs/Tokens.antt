-- Each kind of token: the pieces that it takes, which token they are, and how a token is written.
use Rattle.std.specs.Prelude.{◌≡◌, ℕ, ◌<◌, ◌^◌, ◌&&◌, ◌==◌, Bool, true, false, not, List, [], ◌∷◌, length, map, take, drop, nat_le, Option, None, Some, option_map, if◌then◌else◌}
use Rattle.std.specs.Fmt.{decimal}
use Rattle.std.specs.List.{list_all, prefix_len, AllByRecursion}
use Rattle.std.specs.Option.{option_and_then}
use Rattle.facet_base.specs.declared.layout.ShapeId.{ShapeId}
use Rattle.facet_grammar.specs.declared.token.Kind.{Kind}
use Rattle.facet_grammar.specs.declared.token.Kind.TheVariants as kind
use Rattle.facet_grammar.specs.declared.token.Token.{Token}
use Rattle.facet_grammar.specs.declared.token.Token.TheVariants.{Name, Number, Reference, Caps, Repr, Scalar, Rest, Names, References, Options, OpaqueOptions, Fields, Variants}
use Rattle.facet_grammar.specs.Pieces.{pieces_of, joined}
use Rattle.facet_words.specs.declared.options.Opt.{Opt}
use Rattle.facet_words.specs.Words.{is_name, is_text, number_of, reference_of}
use Rattle.facet_words.specs.Caps.{caps_of, spell_caps}
use Rattle.facet_words.specs.FixedWords.{repr_of, spell_repr, IsRepr, kind_of, spell_kind, IsKind}
use Rattle.facet_words.specs.Options.{option_of, spell_option, IsOption, are_ordered, is_for_opaque}
use Rattle.facet_declaration.specs.Cuts.{read_each}
use Rattle.facet_declaration.specs.Fields.{field_of, spell_field, IsField}
use Rattle.facet_declaration.specs.Variants.{variant_of, spell_variant, IsVariant}

-- the name that a piece is
abbrev pub name_of : List ℕ → Option (List ℕ)
name_of piece = if is_name piece then Some piece else None

-- the shape that a piece refers to
abbrev pub shape_of : List ℕ → Option ShapeId
shape_of piece = option_map (λ n. record { 0 = n }) (reference_of piece)

-- a token of this kind is one piece
abbrev pub is_single : Kind → Bool
is_single kind.Rest = false
is_single kind.Names = false
is_single kind.References = false
is_single kind.Options = false
is_single kind.OpaqueOptions = false
is_single kind.Fields = false
is_single kind.Variants = false
is_single _ = true

-- a piece begins with a dot
abbrev pub is_dotted : List ℕ → Bool
is_dotted [] = false
is_dotted (b ∷ piece) = b == 46

-- of the kinds that take several pieces: whether a token takes this one too, where it took those before
abbrev pub takes : Kind → List ℕ → Bool
takes kind.Options piece = is_dotted piece
takes kind.OpaqueOptions piece = is_dotted piece
takes k piece = not (is_single k)

-- the pieces that it takes
abbrev pub taken : Kind → List (List ℕ) → List (List ℕ)
taken k pieces = take (prefix_len (takes k) pieces) pieces

-- and those that it leaves
abbrev pub left : Kind → List (List ℕ) → List (List ℕ)
left k pieces = drop (prefix_len (takes k) pieces) pieces

-- the words that those pieces are which a token of a kind takes, and the pieces behind them
abbrev pub read_words : {X : Type 0} → Kind → (List ℕ → Option X) → List (List ℕ) → Option (List X × List (List ℕ))
read_words k of pieces = option_map (λ words. (words, left k pieces)) (read_each of (taken k pieces))

-- the token of a kind that one piece is
abbrev pub read_piece : Kind → List ℕ → Option Token
read_piece kind.Name piece = option_map Name (name_of piece)
read_piece kind.Number piece = option_map Number (number_of piece)
read_piece kind.Reference piece = option_map Reference (shape_of piece)
read_piece kind.Caps piece = option_map Caps (caps_of piece)
read_piece kind.Repr piece = option_map Repr (repr_of piece)
read_piece kind.Scalar piece = option_map Scalar (kind_of piece)
read_piece _ piece = None

-- a tuple has 1 to 12 parts
abbrev pub is_tuple : List ShapeId → Bool
is_tuple shapes = nat_le 1 (length shapes) && nat_le (length shapes) 12

-- options stand in their order, and may stand on an opaque
abbrev pub are_opaque_options : List Opt → Bool
are_opaque_options options = are_ordered options && list_all is_for_opaque options

-- the token of a kind that several pieces are
abbrev pub read_list : Kind → List (List ℕ) → Option Token
read_list kind.Rest (piece ∷ pieces) = if is_text (joined (piece ∷ pieces)) then Some (Rest (joined (piece ∷ pieces))) else None
read_list kind.Names pieces = option_map Names (read_each name_of pieces)
read_list kind.References pieces = option_and_then (λ shapes. if is_tuple shapes then Some (References shapes) else None) (read_each shape_of pieces)
read_list kind.Options pieces = option_and_then (λ options. if are_ordered options then Some (Options options) else None) (read_each option_of pieces)
read_list kind.OpaqueOptions pieces = option_and_then (λ options. if are_opaque_options options then Some (OpaqueOptions options) else None) (read_each option_of pieces)
read_list kind.Fields pieces = option_map Fields (read_each field_of pieces)
read_list kind.Variants pieces = option_map Variants (read_each variant_of pieces)
read_list _ pieces = None

-- the token that the first piece is, and the pieces behind it
abbrev pub read_first : Kind → List (List ℕ) → Option (Token × List (List ℕ))
read_first k [] = None
read_first k (piece ∷ pieces) = option_map (λ token. (token, pieces)) (read_piece k piece)

-- the first token, which must be of a kind, and the pieces behind it
abbrev pub read_token : Kind → List (List ℕ) → Option (Token × List (List ℕ))
read_token k pieces = if is_single k then read_first k pieces else option_map (λ token. (token, left k pieces)) (read_list k (taken k pieces))

-- the piece that a reference to a shape is written as
abbrev pub spell_shape : ShapeId → List ℕ
spell_shape shape = 35 ∷ decimal shape.0

-- the pieces that a token is written as
abbrev pub spell_token : Token → List (List ℕ)
spell_token (Name name) = name ∷ []
spell_token (Number n) = decimal n ∷ []
spell_token (Reference shape) = spell_shape shape ∷ []
spell_token (Caps caps) = spell_caps caps ∷ []
spell_token (Repr repr) = spell_repr repr ∷ []
spell_token (Scalar scalar) = spell_kind scalar ∷ []
spell_token (Rest text) = pieces_of text
spell_token (Names names) = names
spell_token (References shapes) = map spell_shape shapes
spell_token (Options options) = map spell_option options
spell_token (OpaqueOptions options) = map spell_option options
spell_token (Fields fields) = map spell_field fields
spell_token (Variants variants) = map spell_variant variants

-- a token is of a kind
abbrev pub is_of : Kind → Token → Bool
is_of kind.Name (Name _) = true
is_of kind.Number (Number _) = true
is_of kind.Reference (Reference _) = true
is_of kind.Caps (Caps _) = true
is_of kind.Repr (Repr _) = true
is_of kind.Scalar (Scalar _) = true
is_of kind.Rest (Rest _) = true
is_of kind.Names (Names _) = true
is_of kind.References (References _) = true
is_of kind.Options (Options _) = true
is_of kind.OpaqueOptions (OpaqueOptions _) = true
is_of kind.Fields (Fields _) = true
is_of kind.Variants (Variants _) = true
is_of _ _ = false

-- a reference has at most nine digits
abbrev pub IsReference : ShapeId → Type 0
IsReference shape = shape.0 < 10 ^ 9

-- a token can be written: its words are words, and a list is in its order and of its length
abbrev pub IsToken : Token → Type 0
IsToken (Name name) = is_name name ≡ true
IsToken (Number n) = n < 10 ^ 9
IsToken (Reference shape) = IsReference shape
IsToken (Caps caps) = Unit {0}
IsToken (Repr repr) = IsRepr repr
IsToken (Scalar scalar) = IsKind scalar
IsToken (Rest text) = is_text text ≡ true
IsToken (Names names) = AllByRecursion (λ name. is_name name ≡ true) names
IsToken (References shapes) = (is_tuple shapes ≡ true) × AllByRecursion IsReference shapes
IsToken (Options options) = (are_ordered options ≡ true) × AllByRecursion IsOption options
IsToken (OpaqueOptions options) = (are_opaque_options options ≡ true) × AllByRecursion IsOption options
IsToken (Fields fields) = AllByRecursion IsField fields
IsToken (Variants variants) = AllByRecursion IsVariant variants
