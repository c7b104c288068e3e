-- The plural categories of a language, as the code keeps them.
use Rattle.std.specs.Prelude.{map}
use Rattle.fluent_patterns.specs.Categories as t
use Rattle.fluent_patterns.specs.declared.categories.Categories.{Categories}
use Rattle.fluent_patterns.specs.declared.categories.Category.{Category}

abbrev pub category_view : Category → t.Category
category_view c = record { key = c.key.now; numbers = c.numbers.items; exists = c.exists }

abbrev pub categories_view : Categories → t.Categories
categories_view c = record {
  cardinal = map category_view c.cardinal.items;
  ordinal = map category_view c.ordinal.items;
  all = c.all;
}
