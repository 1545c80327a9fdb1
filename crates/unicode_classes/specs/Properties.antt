-- Properties of characters by their names: what a name means is what `unicode` says.
use Rattle.std.specs.Prelude.{◌≡◌, ℕ, ◌↔◌, Bool, List, [], ◌∷◌, ◌++◌, Option, Some, None, if◌then◌else◌, codes, IsTrue}
use Rattle.std.specs.Char.{IsScalar}
use Rattle.std.specs.Str.{bytes_eq}
use Rattle.span_core.specs.Intervals.{Covers, AreApart}
use Rattle.ucd_category.specs.declared.GeneralCategory.TheVariants.{UppercaseLetter, LowercaseLetter, TitlecaseLetter, ModifierLetter, OtherLetter, NonspacingMark, SpacingMark, EnclosingMark, DecimalNumber, LetterNumber, OtherNumber}
use Rattle.ucd_category.specs.declared.GeneralCategory.TheVariants.{ConnectorPunctuation, DashPunctuation, OpenPunctuation, ClosePunctuation, InitialPunctuation, FinalPunctuation, OtherPunctuation, MathSymbol, CurrencySymbol, ModifierSymbol, OtherSymbol}
use Rattle.ucd_category.specs.declared.GeneralCategory.TheVariants.{SpaceSeparator, LineSeparator, ParagraphSeparator, Control, Format, PrivateUse, Unassigned}
use Rattle.ucd_category.specs.declared.GeneralCategoryGroup.TheVariants.{Other, Letter, Mark, Number, Punctuation, Symbol, Separator}
use Rattle.ucd_category.specs.GeneralCategory.{general_category, general_category_eq}
use Rattle.ucd_category.specs.GeneralCategoryGroup.{in_group}
use Rattle.unicode.specs.Binary.{is_alphabetic}
use Rattle.unicode_classes.specs.declared.properties.Meaning.{Meaning}
use Rattle.unicode_classes.specs.declared.properties.Named.{Named}
use Rattle.unicode_classes.specs.declared.properties.Meaning.TheVariants.{Alphabetic, Category, Categories}

-- the test that the characters of a property pass
abbrev pub has_property : Meaning → ℕ → Bool
has_property Alphabetic c = is_alphabetic c
has_property (Category value) c = general_category_eq (general_category c) value
has_property (Categories group) c = in_group group (general_category c)

-- a name, and what it means
abbrev pub Property : Type 0
Property = List ℕ × Meaning

-- an entry of the code's table
abbrev pub property_of : Named → Property
property_of named = (named.name.now, named.meaning)

-- the letters that short names of general categories begin with
abbrev pub group_names : List Property
group_names =
    (codes "L", Categories Letter) ∷ ((codes "M", Categories Mark) ∷ ((codes "N", Categories Number) ∷ ((codes "P", Categories Punctuation)
    ∷ ((codes "S", Categories Symbol) ∷ ((codes "Z", Categories Separator) ∷ ((codes "C", Categories Other) ∷ []))))))

-- the short names of general categories, but for that of surrogates, which are no characters
abbrev pub category_names : List Property
category_names =
    (codes "Lu", Category UppercaseLetter) ∷ ((codes "Ll", Category LowercaseLetter) ∷ ((codes "Lt", Category TitlecaseLetter) ∷ ((codes "Lm", Category ModifierLetter) ∷ ((codes "Lo", Category OtherLetter)
    ∷ ((codes "Mn", Category NonspacingMark) ∷ ((codes "Mc", Category SpacingMark) ∷ ((codes "Me", Category EnclosingMark)
    ∷ ((codes "Nd", Category DecimalNumber) ∷ ((codes "Nl", Category LetterNumber) ∷ ((codes "No", Category OtherNumber)
    ∷ ((codes "Pc", Category ConnectorPunctuation) ∷ ((codes "Pd", Category DashPunctuation) ∷ ((codes "Ps", Category OpenPunctuation) ∷ ((codes "Pe", Category ClosePunctuation)
    ∷ ((codes "Pi", Category InitialPunctuation) ∷ ((codes "Pf", Category FinalPunctuation) ∷ ((codes "Po", Category OtherPunctuation)
    ∷ ((codes "Sm", Category MathSymbol) ∷ ((codes "Sc", Category CurrencySymbol) ∷ ((codes "Sk", Category ModifierSymbol) ∷ ((codes "So", Category OtherSymbol)
    ∷ ((codes "Zs", Category SpaceSeparator) ∷ ((codes "Zl", Category LineSeparator) ∷ ((codes "Zp", Category ParagraphSeparator)
    ∷ ((codes "Cc", Category Control) ∷ ((codes "Cf", Category Format) ∷ ((codes "Co", Category PrivateUse) ∷ ((codes "Cn", Category Unassigned) ∷ []))))))))))))))))))))))))))))

-- all names
abbrev pub names : List Property
names = (codes "Alphabetic", Alphabetic) ∷ (group_names ++ category_names)

-- what stands beside a name
abbrev pub look_up : List Property → List ℕ → Option Meaning
look_up [] name = None
look_up (p ∷ ps) name = if bytes_eq p.0 name then Some p.1 else look_up ps name

-- the test of a property, where there is one
abbrev pub test_of : Option Meaning → Option (ℕ → Bool)
test_of None = None
test_of (Some meaning) = Some (has_property meaning)

-- what a name means: the test that its characters pass
unfoldable pub meaning : List ℕ → Option (ℕ → Bool)
meaning name = test_of (look_up names name)

-- the name is that of a property
abbrev pub IsPropertyName : List ℕ → Type 0
IsPropertyName name = (test : ℕ → Bool) × (meaning name ≡ Some test)

-- the ranges are those of the characters that have the property
abbrev pub IsProperty : List ℕ → List (ℕ × ℕ) → Type 0
IsProperty name ranges =
    (test : ℕ → Bool) × (meaning name ≡ Some test) × AreApart ranges × ((c : ℕ) → Covers ranges c ↔ (IsScalar c × IsTrue (test c)))
