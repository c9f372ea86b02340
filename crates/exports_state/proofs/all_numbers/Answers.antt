-- `exports_state::all_numbers` meets its contract: number after number.
use Rattle.std.proofs.Common.{FitsSigned, ◌∷◌, [], pos, ◌∙◌, rules, w8, w32, w64}
use Rattle.std.proofs.lemmas.Int.{to_z-of_z}
use Rattle.ground.proofs.Laws.Integers.Fits.{same}
use Rattle.exports_state.specs.Packed.{numbers_of, state_version}
use Rattle.exports_state.proofs.Reading.{flag_told}
use Rattle.exports_state.proofs.all_numbers.Goals as goal

pub returns : goal.returns
unfolding numbers_of
returns c =
    let power_fits : FitsSigned w32 c.args.st.power = search rules in
    let held_fits : FitsSigned w32 c.args.st.held = search rules in
    let command_fits : FitsSigned w8 c.args.st.opening.command = search rules in
    let row = same w64 c.from.result c.from.type_inv ∙ c.from.ensures in
    let sent = same w64 c.from-2.result c.from-2.type_inv ∙ flag_told _ c.from-2.ensures in
    let power = same w64 c.from-3.result c.from-3.type_inv ∙ c.from-3.ensures ∙ to_z-of_z w32 _ power_fits in
    let held = same w64 c.from-4.result c.from-4.type_inv ∙ c.from-4.ensures ∙ to_z-of_z w32 _ held_fits in
    let pilots = same w64 c.from-5.result c.from-5.type_inv ∙ c.from-5.ensures in
    let limited = same w64 c.from-6.result c.from-6.type_inv ∙ flag_told _ c.from-6.ensures in
    let length = same w64 c.from-7.result c.from-7.type_inv ∙ c.from-7.ensures in
    let left = same w64 c.from-8.result c.from-8.type_inv ∙ c.from-8.ensures in
    let seen = same w64 c.from-9.result c.from-9.type_inv ∙ flag_told _ c.from-9.ensures in
    let command = same w64 c.from-10.result c.from-10.type_inv ∙ c.from-10.ensures ∙ to_z-of_z w8 _ command_fits in
    let a = same w64 c.from-11.result c.from-11.type_inv ∙ c.from-11.ensures in
    let b = same w64 c.from-12.result c.from-12.type_inv ∙ c.from-12.ensures in
    let third = same w64 c.from-13.result c.from-13.type_inv ∙ c.from-13.ensures in
    let d = same w64 c.from-14.result c.from-14.type_inv ∙ c.from-14.ensures in
    let spoilt = same w64 c.from-15.result c.from-15.type_inv ∙ flag_told _ c.from-15.ensures in
    let count = same w64 c.from-16.result c.from-16.type_inv ∙ c.from-16.ensures in
    λ i. pos state_version ∷ row i ∷ sent i ∷ power i ∷ held i ∷ pilots i ∷ limited i ∷ length i ∷ left i ∷ seen i ∷ command i ∷ a i ∷ b i ∷ third i ∷ d i ∷ spoilt i ∷ count i ∷ []
