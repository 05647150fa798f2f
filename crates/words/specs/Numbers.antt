-- The numbers by which a refusal of a text is known outside.
use Rattle.std.specs.Prelude.{ℕ}
use Rattle.words.specs.declared.fault.Fault.{Fault}
use Rattle.words.specs.declared.fault.Place.{Place}
use Rattle.words.specs.declared.fault.Text.{Text}
use Rattle.words.specs.declared.fault.Text.TheVariants.{Table, Sheet, Evidence}
use Rattle.words.specs.declared.fault.Layer.{Layer}
use Rattle.words.specs.declared.fault.Layer.TheVariants as layer
use Rattle.words.specs.declared.fault.Reason.{Reason}
use Rattle.words.specs.declared.fault.Reason.TheVariants.{BadByte, BadNumber, BadWord, Misplaced, TooDeep, OutOfOrder, OutOfRange, TooMany, MemoryShort, TextTooLong}

abbrev pub text_number : Text → ℕ
text_number Table = 1
text_number Sheet = 2
text_number Evidence = 3

abbrev pub layer_number : Layer → ℕ
layer_number layer.Before = 0
layer_number layer.Words = 1
layer_number layer.Forms = 2
layer_number layer.Limits = 3

abbrev pub reason_number : Reason → ℕ
reason_number BadByte = 1
reason_number BadNumber = 2
reason_number BadWord = 3
reason_number Misplaced = 4
reason_number TooDeep = 5
reason_number OutOfOrder = 6
reason_number OutOfRange = 7
reason_number TooMany = 8
reason_number MemoryShort = 9
reason_number TextTooLong = 10

-- a refusal: which rule is broken, in which text, seen by which layer, and the place of the token
pub record Refused : Type 0 where
  pub number : ℕ
  pub text : ℕ
  pub layer : ℕ
  pub place : Place

-- a refusal before the text is looked at
abbrev pub before_text : ℕ → ℕ → Refused
before_text text number = record { number = number; text = text; layer = 0; place = record { line = 0; column = 0 } }

-- a fault of the program, by these numbers
abbrev pub refused : Fault → Refused
refused f = record { number = reason_number f.reason; text = text_number f.text; layer = layer_number f.layer; place = f.place }
