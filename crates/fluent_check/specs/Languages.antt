-- Bundles of files in a language.
-- `language_rules tag` are the plural rules of the CLDR for a tag; `category_of`, the category that they give a number.
use Rattle.std.specs.Prelude.{◌≡◌, true, List, [], map}
use Rattle.fluent_ast.specs.Tree.{Text, Entry}
use Rattle.fluent_plural_rules.specs.RuleTexts.{category_of}
use Rattle.fluent_semantics.specs.Value.{Custom}
use Rattle.fluent_semantics.specs.Bundle.{Bundle, empty_bundle, after, after_all, add_resource, add_builtins}
use Rattle.fluent_patterns.specs.Languages.{language_rules}
use Rattle.fluent_check.specs.Called.{with_functions}

-- no values and functions of an application, no formatter, no transform
abbrev pub no_custom : Custom Text
no_custom = record { text = λ t. []; same = λ s t. true }

-- the built-in function alone
abbrev pub start_of : Text → Bundle Text
start_of tag = after add_builtins (empty_bundle (category_of (language_rules tag)) no_custom)

-- the entries of files are added, in order
abbrev pub adding_all : List (List Entry) → Bundle Text → Bundle Text
adding_all files b = after_all (map (λ entries. add_resource entries) files) b

-- the same with all of these files, in order
abbrev pub all_of : Text → List (List Entry) → Bundle Text
all_of tag files = adding_all files (start_of tag)

-- with functions that an application adds, the files that are loaded before it, and a file
abbrev pub bundle_with : Text → List Text → List (List Entry) → List Entry → Bundle Text
bundle_with tag functions beside entries =
    after (add_resource entries) (adding_all beside (with_functions functions (start_of tag)))
