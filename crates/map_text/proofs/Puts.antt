-- Bytes put one after another.
use Rattle.std.proofs.Common.{◌≡◌, ℕ, ◌+◌, ◌<◌, ◌≤◌, true, List, [], ◌∷◌, length, drop, get_or, ap, ◌∙◌, sym, refl, subst, arith, add-one}
use Rattle.std.specs.Prelude.{option_map}
use Rattle.std.proofs.Math.Seq.{drop-cons}
use Rattle.std.proofs.lemmas.Bool.{cond-true}
use Rattle.guest_types.specs.Memory.{Memory, can_read, put_byte, next_address}
use Rattle.guest_types.proofs.Writes.{page_at-put_byte, page_numbers-put_byte, IsMemory-put_byte, after_write}
use Rattle.guest_types.proofs.Merges.{empty_memory}
use Rattle.map_text.specs.Mapping.{put_bytes, after_lines, map_of}
use Rattle.text_parts.specs.Parts.{lines_of}
use Rattle.map_text.specs.View.{IsBeside}
use Rattle.map_text.proofs.Places.{count_numbers}

next : (memory : Memory) (address i : ℕ) (bytes : List ℕ) → i < length bytes → put_bytes memory address (drop i bytes) ≡ put_bytes memory address (get_or bytes i 0 ∷ drop (i + 1) bytes)
next memory address i bytes l = ap (put_bytes memory address) (drop-cons bytes i 0 l ∙ ap (λ k. get_or bytes i 0 ∷ drop k bytes) (sym (add-one i)))

pub put_more : (memory : Memory) (address i : ℕ) (bytes : List ℕ) → i < length bytes → can_read memory address ≡ true → put_bytes memory address (drop i bytes) ≡ put_bytes (put_byte memory address (get_or bytes i 0)) (next_address address) (drop (i + 1) bytes)
unfolding put_bytes
put_more memory address i bytes l readable = next memory address i bytes l ∙ cond-true _ _ _ readable

pub beside-put_byte : (image memory : Memory) (a b : ℕ) → b < 256 → IsBeside image memory → IsBeside image (put_byte memory a b)
beside-put_byte image memory a b small is = record {
  memory = IsMemory-put_byte memory a b is.memory small;
  apart = λ k d l. page_at-put_byte memory a b (get_or image k d).page ∙ ap (option_map (after_write a b (get_or image k d).page)) (is.apart k d l);
  few = omega (arith, is.few, count_numbers (put_byte memory a b), count_numbers memory, ap length (page_numbers-put_byte memory a b));
}

pub beside-put : (image memory new : Memory) (a b : ℕ) → b < 256 → new ≡ put_byte memory a b → IsBeside image memory → IsBeside image new
beside-put image memory new a b small e is = subst (λ (m : Memory). IsBeside image m) (sym e) (beside-put_byte image memory a b small is)

pub beside-nothing : (image : Memory) → length image ≤ 16384 → IsBeside image []
beside-nothing image few = record {
  memory = empty_memory;
  apart = λ k d l. refl;
  few = omega arith;
}

pub first_lines : (text : List ℕ) (image pages : Memory) → pages ≡ [] → after_lines image 1 (lines_of text) pages ≡ map_of text image
unfolding map_of
first_lines text image pages e = ap (after_lines image 1 (lines_of text)) e
