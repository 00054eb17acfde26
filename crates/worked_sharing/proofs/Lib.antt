mod ThreeNumbers
