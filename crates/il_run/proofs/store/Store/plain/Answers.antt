use Rattle.il_run.proofs.Arms.{const_done, move_done, conv_done, bin_done, get_done, set_done, get_x_done, set_x_done, get_a_done, set_a_done, clear_done}
use Rattle.il_run.proofs.store.Store.plain.Goals as goal

pub returns-in-Const : goal.returns-in-Const
returns-in-Const c = const_done _ _ _ c.requires.holds _ _ _ _ c.in-Const.is c.requires.fits c.set.ensures

pub returns-in-Move : goal.returns-in-Move
returns-in-Move c = move_done _ _ _ c.requires.holds _ _ _ _ _ c.in-Move.is c.requires.fits c.reg-v.ensures c.set-in-Move.ensures

pub returns-in-Conv : goal.returns-in-Conv
returns-in-Conv c = conv_done _ _ _ c.requires.holds _ _ _ _ _ _ _ c.in-Conv.is c.requires.fits c.reg-v-in-Conv.ensures c.convert.ensures c.set-in-Conv.ensures

pub returns-in_ok-v-in-Bin : goal.returns-in_ok-v-in-Bin
returns-in_ok-v-in-Bin c = bin_done _ _ _ c.requires.holds _ _ _ _ _ _ _ _ _ c.in-Bin.is c.requires.fits c.reg-x.ensures c.reg-y.ensures
    c.in_ok-v-in-Bin.ensures.word c.set-in-Bin.ensures

pub returns-in-Get : goal.returns-in-Get
returns-in-Get c = get_done _ _ _ c.requires.holds _ _ _ _ _ _ _ c.in-Get.is c.requires.fits c.requires.objects c.index.ensures c.index-v.ensures
    c.set-in-Get.ensures

pub returns-in-Set : goal.returns-in-Set
returns-in-Set c = set_done _ _ _ c.requires.holds _ _ _ _ _ _ _ c.in-Set.is c.requires.fits c.requires.objects c.index-in-Set.ensures c.reg-v-in-Set.ensures
    c.set_word.ensures

pub returns-in_ok-at-in-GetX : goal.returns-in_ok-at-in-GetX
returns-in_ok-at-in-GetX c = get_x_done _ _ _ c.requires.holds _ _ _ _ _ _ _ _ c.in-GetX.is c.requires.fits c.reg-index.ensures c.in_ok-at-in-GetX.ensures.0
    c.in_ok-at-in-GetX.ensures.1 c.index-v-in-GetX.ensures c.set-in-GetX.ensures

pub returns-in_ok-at-in-SetX : goal.returns-in_ok-at-in-SetX
returns-in_ok-at-in-SetX c = set_x_done _ _ _ c.requires.holds _ _ _ _ _ _ _ _ c.in-SetX.is c.requires.fits c.reg-index-in-SetX.ensures
    c.in_ok-at-in-SetX.ensures.0 c.in_ok-at-in-SetX.ensures.1 c.reg-v-in-SetX.ensures c.set_word-in-SetX.ensures

pub returns-in_ok-at-in-GetA : goal.returns-in_ok-at-in-GetA
returns-in_ok-at-in-GetA c = get_a_done _ _ _ c.requires.holds _ _ _ _ _ _ _ _ c.in-GetA.is c.requires.fits c.reg-index-in-GetA.ensures
    (rw c.requires.arrays at c.in_ok-at-in-GetA.ensures.0) (rw c.requires.arrays at c.in_ok-at-in-GetA.ensures.1) c.index-v-in-GetA.ensures
    c.set-in-GetA.ensures

pub returns-in_ok-at-in-SetA : goal.returns-in_ok-at-in-SetA
returns-in_ok-at-in-SetA c = set_a_done _ _ _ c.requires.holds _ _ _ _ _ _ _ _ c.in-SetA.is c.requires.fits c.reg-index-in-SetA.ensures
    (rw c.requires.arrays at c.in_ok-at-in-SetA.ensures.0) (rw c.requires.arrays at c.in_ok-at-in-SetA.ensures.1) c.reg-v-in-SetA.ensures c.set_element.ensures

pub returns-in-Clear : goal.returns-in-Clear
returns-in-Clear c = clear_done _ _ _ c.requires.holds _ _ _ _ _ _ c.in-Clear.is c.requires.fits (rw c.requires.arrays at c.clear.ensures)
