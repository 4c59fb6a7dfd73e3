-- Worked rows of the classes, each by computing.
use Rattle.std.specs.Prelude.{◌≡◌, true, false, [], ◌∷◌, codes, refl, Ok, Err}
use Rattle.language_model.specs.declared.class.Property.TheVariants.{Word}
use Rattle.language_model.specs.declared.class.ClassItem.TheVariants.{Span, Having}
use Rattle.language_model.specs.declared.class.ClassFault.TheVariants.{BadEscape, BadRange, BadPosix}
use Rattle.language_model.specs.Classes.{class_of, posix_len, hex_piece, escape_piece, piece_at, pieces_behind, items_of}

a_to_c : class_of (codes "[a-c]") ≡ Ok (record { negated = false; caseless = false; items = Span 97 99 ∷ [] })
unfolding class_of posix_len hex_piece escape_piece piece_at pieces_behind items_of
a_to_c = refl

plus_minus : class_of (codes "[+-]") ≡ Ok (record { negated = false; caseless = false; items = Span 43 43 ∷ Span 45 45 ∷ [] })
unfolding class_of posix_len hex_piece escape_piece piece_at pieces_behind items_of
plus_minus = refl

word_minus_dot : class_of (codes "[\\w-.]") ≡ Ok (record { negated = false; caseless = false; items = Having Word ∷ Span 45 45 ∷ Span 46 46 ∷ [] })
unfolding class_of posix_len hex_piece escape_piece piece_at pieces_behind items_of
word_minus_dot = refl

not_a : class_of (codes "[^a]:i") ≡ Ok (record { negated = true; caseless = true; items = Span 97 97 ∷ [] })
unfolding class_of posix_len hex_piece escape_piece piece_at pieces_behind items_of
not_a = refl

close : class_of (codes "[\\]]") ≡ Ok (record { negated = false; caseless = false; items = Span 93 93 ∷ [] })
unfolding class_of posix_len hex_piece escape_piece piece_at pieces_behind items_of
close = refl

json_char : class_of (codes "[^\"\\\\\\x{0}-\\x{1F}]") ≡ Ok (record { negated = true; caseless = false; items = Span 34 34 ∷ Span 92 92 ∷ Span 0 31 ∷ [] })
unfolding class_of posix_len hex_piece escape_piece piece_at pieces_behind items_of
json_char = refl

z_to_a : class_of (codes "[z-a]") ≡ Err BadRange
unfolding class_of posix_len hex_piece escape_piece piece_at pieces_behind items_of
z_to_a = refl

q : class_of (codes "[\\q]") ≡ Err BadEscape
unfolding class_of posix_len hex_piece escape_piece piece_at pieces_behind items_of
q = refl

cntrl : class_of (codes "[[:cntrl:]]") ≡ Err BadPosix
unfolding class_of posix_len hex_piece escape_piece piece_at pieces_behind items_of
cntrl = refl

a_to_digit : class_of (codes "[a-\\d]") ≡ Err BadRange
unfolding class_of posix_len hex_piece escape_piece piece_at pieces_behind items_of
a_to_digit = refl
