-- The longer words, by the bytes that their arms tell.
use Rattle.std.proofs.Common.{◌≡◌, codes, refl, rules, arith}
use Rattle.std.proofs.lemmas.Slice.Eq.{text_from_reads}
use Rattle.table.proofs.contents.Keyword.from_word.Goals as goal

pub returns-in-modes : goal.returns-in-modes
returns-in-modes c = let e : c.args.word.now ≡ codes "modes" = text_from_reads _ _ (omega arith) (search rules) in rw e (record { answer = refl })

pub returns-in-commands : goal.returns-in-commands
returns-in-commands c = let e : c.args.word.now ≡ codes "commands" = text_from_reads _ _ (omega arith) (search rules) in rw e (record { answer = refl })

pub returns-in-flags : goal.returns-in-flags
returns-in-flags c = let e : c.args.word.now ≡ codes "flags" = text_from_reads _ _ (omega arith) (search rules) in rw e (record { answer = refl })
